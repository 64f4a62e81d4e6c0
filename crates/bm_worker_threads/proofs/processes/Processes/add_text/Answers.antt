use Rattle.std.proofs.Common.{◌≡◌, ◌∙◌, Some, arith, position, subst, sym}
use Rattle.bm_worker_threads.specs.Carrying.{AddsText}
use Rattle.bm_worker_threads.specs.Turns.{is_of}
use Rattle.bm_worker_threads.proofs.Changes.{changes_of, on_ok}
use Rattle.bm_worker_threads.proofs.processes.Processes.add_text.Goals as goal

-- it is kept of this process, and nothing else has changed
pub returns-in-Some-clause-kept : goal.returns-in-Some-clause-kept
returns-in-Some-clause-kept c =
    let here = subst (λ l. position (is_of c.args.process) l ≡ Some c.in-Some.at) c.as_slice.ensures.value (sym c.place_of.ensures ∙ c.in-Some.is) in
    on_ok c.keep.result (changes_of c.args.process (AddsText c.args.said) c.args.self.now.parts.items c.in-Some.at c.index_mut-part.result.now c.keep.new.self here (omega arith) c.index_mut-part.ensures.value) c.keep.ensures

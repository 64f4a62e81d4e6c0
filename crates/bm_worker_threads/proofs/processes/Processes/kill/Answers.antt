use Rattle.std.proofs.Common.{◌≡◌, ◌∙◌, Some, arith, position, subst, sym}
use Rattle.bm_worker_threads.specs.Carrying.{IsKilled}
use Rattle.bm_worker_threads.specs.Turns.{is_of}
use Rattle.bm_worker_threads.proofs.Changes.{changes_of, on_ok}
use Rattle.bm_worker_threads.proofs.processes.Processes.kill.Goals as goal

-- this process is killed, and nothing else has changed
pub returns-in-Some-clause-parts : goal.returns-in-Some-clause-parts
returns-in-Some-clause-parts g c =
    let here = subst (λ l. position (is_of c.args.process) l ≡ Some c.in-Some.at) c.as_slice.ensures.value (sym c.place_of.ensures ∙ c.in-Some.is) in
    on_ok c.kill.result (changes_of c.args.process (IsKilled c.args.self.now.marks) c.args.self.now.parts.items c.in-Some.at c.index_mut-part.result.now c.kill.new.self here (omega arith) c.index_mut-part.ensures.value) c.kill.ensures.killed

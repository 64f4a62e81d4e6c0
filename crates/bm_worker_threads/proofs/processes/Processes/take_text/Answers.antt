use Rattle.std.proofs.Common.{rules, arith, ◌≡◌, ◌∙◌, sym, subst, refl, position, length, Some}
use Rattle.std.proofs.lemmas.Option.{slice_get_read}
use Rattle.bm_worker_threads.specs.Turns.{is_of}
use Rattle.bm_worker_threads.proofs.processes.Processes.take_text.Goals as goal

-- the first text goes, and all else stays
pub returns-in-Some-clause-kept : goal.returns-in-Some-clause-kept
returns-in-Some-clause-kept g c =
    let here = subst (λ l. position (is_of c.args.process) l ≡ Some c.in-Some.at) c.as_slice.ensures.value (sym c.place_of.ensures ∙ c.in-Some.is) in
    let there = slice_get_read c.args.self.now.parts.items (length c.args.self.now.parts.items) c.in-Some.at c.index_mut-part.result.now refl (omega arith) c.index_mut-part.ensures.value in
    rw here (c.index_mut-part.result.now, c.pop_front-said.new.self, there, search rules, refl)

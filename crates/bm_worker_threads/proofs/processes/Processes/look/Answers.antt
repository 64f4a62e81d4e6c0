use Rattle.std.proofs.Common.{◌≡◌, ◌∙◌, Some, arith, length, position, refl, subst, sym}
use Rattle.std.proofs.lemmas.Option.{slice_get_read}
use Rattle.bm_worker_threads.specs.Turns.{is_of}
use Rattle.bm_worker_threads.proofs.processes.Processes.look.Goals as goal

-- this process is looked at, and nothing else has changed
pub returns-in-Some-clause-look : goal.returns-in-Some-clause-look
returns-in-Some-clause-look g c =
    let here = subst (λ l. position (is_of c.args.process) l ≡ Some c.in-Some.at) c.as_slice.ensures.value (sym c.place_of.ensures ∙ c.in-Some.is) in
    let there = slice_get_read c.args.self.now.parts.items (length c.args.self.now.parts.items) c.in-Some.at c.index_mut-part.result.now refl (omega arith) c.index_mut-part.ensures.value in
    rw here (c.index_mut-part.result.now, c.look.new.self, there, (c.look.ensures.kept, c.look.ensures.sweep, c.look.ensures.child), refl)

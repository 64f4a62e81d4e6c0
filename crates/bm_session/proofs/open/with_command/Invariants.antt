use Rattle.std.proofs.Common.{◌≡◌, None, take}
use Rattle.std.specs.Prelude.{◌==◌, find}
use Rattle.bm_session.specs.declared.open.Open.{Open}
use Rattle.bm_session.proofs.open.with_command.Given as goal

abbrev pub invariant-loop-entry : goal.invariant-loop-entry
invariant-loop-entry l = find (λ (o : Open). l.command == o.command) (take l.entry-index l.listed) ≡ None

use Rattle.std.proofs.Common.{◌≡◌, ◌++◌}
use Rattle.bm_outbox.specs.Opening.{waiting_texts}
use Rattle.bm_outbox.proofs.outbox.Outbox.push_all.Given as goal

abbrev pub invariant-loop-said : goal.invariant-loop-said
invariant-loop-said l = l.self ≡ l.initial.self ++ waiting_texts l.command (l.yielded)

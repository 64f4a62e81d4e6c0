use Rattle.std.proofs.Common.{◌≡◌, ◌++◌}
use Rattle.bm_outbox.specs.Opening.{waiting_texts}
use Rattle.bm_worker_threads.proofs.carrying.push_texts.Given as goal

abbrev pub invariant-loop-said : goal.invariant-loop-said
invariant-loop-said l = l.outbox ≡ l.initial.outbox ++ waiting_texts l.command (l.yielded)

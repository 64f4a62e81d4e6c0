use Rattle.std.proofs.Common.{◌≡◌}
use Rattle.bm_worker_threads.proofs.sweeping.Sweeper.wait.Given as goal

-- it goes on looking for the same
abbrev pub invariant-loop : goal.invariant-loop
invariant-loop g l = l.self.command ≡ l.initial.self.command

use Rattle.std.proofs.Common.{◌≡◌}
use Rattle.bm_worker_threads.proofs.build_worker.BuildWorker.take_all.Given as goal

abbrev pub invariant-loop : goal.invariant-loop
invariant-loop g l = l.self.texts ≡ l.initial.self.texts

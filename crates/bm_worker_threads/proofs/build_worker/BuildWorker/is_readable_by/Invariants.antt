use Rattle.std.proofs.Common.{◌≡◌}
use Rattle.bm_worker_threads.proofs.build_worker.BuildWorker.is_readable_by.Given as goal

abbrev pub invariant-loop : goal.invariant-loop
invariant-loop g l = l.self ≡ record l.initial.self { processes = l.self.processes }

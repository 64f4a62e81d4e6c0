use Rattle.std.proofs.Common.{◌≡◌}
use Rattle.bm_worker_threads.specs.Serving.{OnlyHears}
use Rattle.bm_worker_threads.proofs.build_worker.BuildWorker.hears_all.Given as goal

abbrev pub invariant-loop : goal.invariant-loop
invariant-loop g l = record {
  session : OnlyHears l.initial.self.session l.self.session;
  others : l.self ≡ record l.initial.self { session = l.self.session };
}

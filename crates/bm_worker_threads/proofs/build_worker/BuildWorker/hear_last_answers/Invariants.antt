use Rattle.std.proofs.Common.{◌≡◌}
use Rattle.bm_worker_threads.specs.Serving.{OnlyHears}
use Rattle.bm_worker_threads.proofs.build_worker.BuildWorker.hear_last_answers.Given as goal

abbrev pub invariant-loop : goal.invariant-loop
invariant-loop g l = record {
  session : OnlyHears l.fn.self.session l.self.session;
  texts : l.self.texts ≡ l.fn.self.texts;
  tries : l.self.tries ≡ l.fn.self.tries;
}

use Rattle.bm_worker_threads.proofs.build_worker.BuildWorker.hear_one.Goals as goal

-- one turn, and what is done about it
pub returns-clause-heard : goal.returns-clause-heard
returns-clause-heard g c = (c.hear-heard.result, c.hear-heard.new.self, c.hear-heard.ensures, c.follow.ensures.done)

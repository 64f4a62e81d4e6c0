use Rattle.std.proofs.Common.{refl, inl, inr}
use Rattle.bm_worker_threads.proofs.build_worker.BuildWorker.send_next.Goals as goal

-- what was told, and then what is next is sent
pub returns-in-Ok-clause-sent : goal.returns-in-Ok-clause-sent
returns-in-Ok-clause-sent g c = (c.tell_next.new.self.session, c.tell_next.ensures.told, inl (c.send_next.result, c.after_sending.ensures, c.send_next.ensures))

pub returns-in-Err-clause-sent : goal.returns-in-Err-clause-sent
returns-in-Err-clause-sent g c = (c.tell_next.new.self.session, c.tell_next.ensures.told, inr (refl, refl))

use Rattle.std.proofs.Common.{refl, inl}
use Rattle.std.specs.Option.{option_copied}
use Rattle.bm_worker_session.proofs.Connecting.{resumed_alone}
use Rattle.bm_worker_session.proofs.worker_session.WorkerSession.connect.Goals as goal

-- no answer was read
pub returns-in-Err : goal.returns-in-Err
returns-in-Err g c = (c.login.new.self, refl, inl c.in-Err.ensures)

-- an answer was read, and memory was wanting for what is to be sent again
pub returns-in-Err-begin : goal.returns-in-Err-begin
returns-in-Err-begin g c =
    resumed_alone g.S.Read.remaining g.S.Write.contents c.args.name.now c.args.password.now (option_copied c.args.session) (option_copied c.args.next) c.in-Ok.attached c.args.link c.login.new.self c.args.self.now
    c.begin.new.self _ c.in-Ok.ensures c.in-Err-begin.ensures

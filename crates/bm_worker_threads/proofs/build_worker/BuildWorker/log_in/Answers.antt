use Rattle.std.proofs.Common.{Ok, Err, inl, refl, subst}
use Rattle.std.specs.Option.{option_copied}
use Rattle.bm_worker_session.specs.Sessions.{ConnectsBy}
use Rattle.bm_worker_threads.proofs.build_worker.BuildWorker.log_in.Goals as goal

-- the session asked for is that of the texts, and the next one is what was drawn
pub returns-in-Ok-connect-clause-login : goal.returns-in-Ok-connect-clause-login
returns-in-Ok-connect-clause-login g c =
    let next = subst (λ n. ConnectsBy g.S.Read.remaining g.S.Write.contents c.args.name.now c.args.password.now (option_copied c.session-session.result) n c.args.link c.args.self.now.session (Ok c.in-Ok-connect.attached) c.connect.new.self) c.text_in-new.ensures c.in-Ok-connect.ensures in (
      c.in-Ok.next,
      c.in-Ok.ensures,
      c.answered.ensures,
      subst (λ s. ConnectsBy g.S.Read.remaining g.S.Write.contents c.args.name.now c.args.password.now s c.in-Ok.next c.args.link c.args.self.now.session (Ok c.in-Ok-connect.attached) c.connect.new.self) c.session-session.ensures next,
    )

pub returns-in-Err-clause-login : goal.returns-in-Err-clause-login
returns-in-Err-clause-login g c =
    let next = subst (λ n. ConnectsBy g.S.Read.remaining g.S.Write.contents c.args.name.now c.args.password.now (option_copied c.session-session.result) n c.args.link c.args.self.now.session (Err c.in-Err.fault) c.connect.new.self) c.text_in-new.ensures c.in-Err.ensures in (
      refl,
      c.in-Err.ensures.1,
      inl (
        c.in-Ok.next,
        c.in-Ok.ensures,
        subst (λ s. ConnectsBy g.S.Read.remaining g.S.Write.contents c.args.name.now c.args.password.now s c.in-Ok.next c.args.link c.args.self.now.session (Err c.in-Err.fault) c.connect.new.self) c.session-session.ensures next,
      ),
    )

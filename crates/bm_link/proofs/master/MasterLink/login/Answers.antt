use Rattle.std.proofs.Common.{refl, subst, inl, inr, Some, Err}
use Rattle.bm_link.specs.declared.fault.LinkFault.TheVariants.{BadLogin}
use Rattle.bm_link.specs.declared.login.Unadmitted.{Unadmitted}
use Rattle.bm_link.specs.declared.ending.Stage.TheVariants as stage
use Rattle.bm_link.specs.Logins.{AdmitsOrFails}
use Rattle.bm_link.proofs.Stages.{fails_to_log_in, logs_in}
use Rattle.bm_link.proofs.master.MasterLink.login.Goals as goal

pub returns-in-Ok-clause-login : goal.returns-in-Ok-clause-login
returns-in-Ok-clause-login g c =
    rw (← c.self.view_is) (
    logs_in g.S.Read.remaining g.S.Write.contents c.args.users.now
    (record { socket = c.self.inside.socket; stage = c.self.inside.stage; login = c.self.inside.login; kept = c.self.inside.kept; refused = c.self.inside.refused })
    c.in-Ok.place c.in-Ok.named
    (record { socket = c.admit.new.socket; stage = c.self.inside.stage; login = Some c.in-Ok.named; kept = c.self.inside.kept; refused = c.self.inside.refused })
    c.in-Open.is c.in-None.is c.in-Ok.ensures refl c.in-Open.is refl
    )

-- the login was that of no user
pub returns-in-Err-Rejected-clause-login : goal.returns-in-Err-Rejected-clause-login
returns-in-Err-Rejected-clause-login g c =
    let h = subst (λ (r : Unadmitted). AdmitsOrFails g.S.Read.remaining g.S.Write.contents c.args.users.now c.self.inside.socket (Err r) c.admit.new.socket) c.in-Err-Rejected.field-0-is c.in-Err-Rejected.ensures in
    rw (← c.self.view_is) (
    fails_to_log_in g.S.Read.remaining g.S.Write.contents c.args.users.now
    (record { socket = c.self.inside.socket; stage = c.self.inside.stage; login = c.self.inside.login; kept = c.self.inside.kept; refused = c.self.inside.refused })
    BadLogin
    (record { socket = c.admit.new.socket; stage = stage.Failed; login = c.self.inside.login; kept = c.self.inside.kept; refused = Some c.in-Err-Rejected.name })
    c.in-Open.is c.in-None.is refl c.in-None.is (inl (refl, (c.in-Err-Rejected.name, refl, h)))
    )

-- none was read
pub returns-in-Err-Unread-clause-login : goal.returns-in-Err-Unread-clause-login
returns-in-Err-Unread-clause-login g c =
    let h = subst (λ (r : Unadmitted). AdmitsOrFails g.S.Read.remaining g.S.Write.contents c.args.users.now c.self.inside.socket (Err r) c.admit.new.socket) c.in-Err-Unread.field-0-is c.in-Err-Unread.ensures in
    rw (← c.self.view_is) (
    fails_to_log_in g.S.Read.remaining g.S.Write.contents c.args.users.now
    (record { socket = c.self.inside.socket; stage = c.self.inside.stage; login = c.self.inside.login; kept = c.self.inside.kept; refused = c.self.inside.refused })
    c.in-Err-Unread.fault
    (record { socket = c.admit.new.socket; stage = stage.Failed; login = c.self.inside.login; kept = c.self.inside.kept; refused = c.self.inside.refused })
    c.in-Open.is c.in-None.is refl c.in-None.is (inr (refl, h))
    )

use Rattle.std.proofs.Common.{inr}
use Rattle.std.specs.Option.{option_copied}
use Rattle.bm_link.proofs.Opening.{connects, fails_to_connect}
use Rattle.bm_link.proofs.worker.WorkerLink+S+RandomKeys+R.connect.Goals as goal

-- the link that the handshake gave, by which the login was answered
pub returns-in-Ok-login : goal.returns-in-Ok-login
returns-in-Ok-login g c =
    let h = connects g.S.Read.remaining g.S.Write.contents c.args.name.now c.args.password.now (option_copied c.args.session) c.in-Ok.link c.login.new.self c.in-Ok-login.attached
    c.in-Ok.ensures.opened c.in-Ok-login.ensures in
    record { fresh = (h.1, h.3, h.2); fault = tt; login = (c.in-Ok.link.socket, c.in-Ok.ensures.opened.0, h.0) }

-- the same, by which the login failed
pub returns-in-Err-login : goal.returns-in-Err-login
returns-in-Err-login g c = record {
  fresh = tt;
  fault = inr (
    c.in-Ok.link.socket,
    c.login.new.self.socket,
    c.in-Ok.ensures.opened.0,
    fails_to_connect g.S.Read.remaining g.S.Write.contents c.args.name.now c.args.password.now (option_copied c.args.session) c.in-Ok.link c.login.new.self c.in-Err-login.fault
        c.in-Ok.ensures.opened c.in-Err-login.ensures,
  );
  login = tt;
}

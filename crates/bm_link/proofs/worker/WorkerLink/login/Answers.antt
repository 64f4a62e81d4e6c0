use Rattle.std.proofs.Common.{rules, ◌≡◌, ◌∙◌, false}
use Rattle.std.specs.Option.{option_copied}
use Rattle.std.specs.Prelude.{is_some}
use Rattle.bm_link.proofs.Opening.{lent_is_there, logged_in, not_logged_in}
use Rattle.bm_link.proofs.worker.WorkerLink.login.Goals as goal

-- the login was sent, and its answer read
pub returns-in-Ok : goal.returns-in-Ok
returns-in-Ok g c =
    let f : c.self.inside.failed ≡ false = search rules in
    let n : c.is_some-self-inside.result ≡ is_some c.args.session = search rules in
    rw (← c.self.view_is) (
    logged_in g.S.Read.remaining g.S.Write.contents c.args.name.now c.args.password.now (option_copied c.args.session) (option_copied c.args.next)
    (record { socket = c.self.inside.socket; named = c.self.inside.named; failed = c.self.inside.failed; closed = c.self.inside.closed })
    c.greet.new.socket c.is_some-self-inside.result c.in-Ok.attached f (n ∙ lent_is_there c.args.session) c.in-Ok.ensures.answer
    )

-- it was not sent, or no answer was read
pub returns-in-Err : goal.returns-in-Err
returns-in-Err g c =
    let f : c.self.inside.failed ≡ false = search rules in
    let n : c.is_some-self-inside.result ≡ is_some c.args.session = search rules in
    rw (← c.self.view_is) (
    not_logged_in g.S.Read.remaining g.S.Write.contents c.args.name.now c.args.password.now (option_copied c.args.session) (option_copied c.args.next)
    (record { socket = c.self.inside.socket; named = c.self.inside.named; failed = c.self.inside.failed; closed = c.self.inside.closed })
    c.greet.new.socket c.is_some-self-inside.result c.in-Err.fault f (n ∙ lent_is_there c.args.session) c.in-Err.ensures.fault
    )

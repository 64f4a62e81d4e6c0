use Rattle.std.proofs.Common.{rules, ◌≡◌, sym, ap, ◌∙◌, Some}
use Rattle.bm_worker_session.proofs.Calls.{heard, up}
use Rattle.bm_worker_session.proofs.worker_session.WorkerSession.hear.Goals as goal

pub returns-in-Some : goal.returns-in-Some
returns-in-Some g c =
    let at : c.self.inside.link ≡ Some c.in-Some.link = search rules in
    let e = sym c.self.view_is ∙ ap (up c.self.inside.core c.self.inside.outbox c.self.inside.backlog.items c.in-Some.link) at in
    heard c.self.inside.core c.self.inside.outbox c.self.inside.backlog.items c.in-Some.link g.S.Read.remaining g.S.Write.contents c.args.self.now
    c.turn.new.worker c.turn.new.self c.turn.result e c.turn.ensures.worked c.turn.ensures.named

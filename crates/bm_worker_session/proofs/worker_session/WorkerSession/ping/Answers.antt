use Rattle.std.proofs.Common.{rules, ◌≡◌, sym, ap, ◌∙◌, Some}
use Rattle.bm_worker_session.proofs.Calls.{pinged, up}
use Rattle.bm_worker_session.proofs.worker_session.WorkerSession.ping.Goals as goal

pub returns : goal.returns
returns g c =
    let at : c.self.inside.link ≡ Some c.in-Some.link = search rules in
    let e = sym c.self.view_is ∙ ap (up c.self.inside.core c.self.inside.outbox c.self.inside.backlog.items c.in-Some.link) at in
    pinged c.self.inside.core c.self.inside.outbox c.self.inside.backlog.items c.in-Some.link g.S.Write.contents c.args.self.now
    c.ping.new.self c.ping.result e c.ping.ensures.pinged c.ping.ensures.named

use Rattle.std.proofs.Common.{rules, ◌≡◌, sym, ap, ◌∙◌, Some}
use Rattle.bm_worker_session.proofs.Calls.{sent_again, told, up}
use Rattle.bm_worker_session.proofs.worker_session.WorkerSession.send_next.Goals as goal

-- nothing is to be sent again
pub returns-in_default-pop_front : goal.returns-in_default-pop_front
returns-in_default-pop_front g c =
    let at : c.self.inside.link ≡ Some c.in-Some.link = search rules in
    let e = sym c.self.view_is ∙ ap (up c.self.inside.core c.self.inside.outbox c.self.inside.backlog.items c.in-Some.link) at in
    told c.self.inside.core c.self.inside.outbox c.self.inside.backlog.items c.in-Some.link g.S.Write.contents c.args.self.now c.pop_front.new.self.items
    c.tell_on.new.core c.tell_on.new.outbox c.tell_on.new.link c.tell_on.result e c.in_default-pop_front.ensures.items c.in_default-pop_front.ensures.rest
    c.tell_on.ensures

-- the oldest request that is to be sent again
pub returns : goal.returns
returns g c =
    let at : c.self.inside.link ≡ Some c.in-Some.link = search rules in
    let e = sym c.self.view_is ∙ ap (up c.self.inside.core c.self.inside.outbox c.self.inside.backlog.items c.in-Some.link) at in
    sent_again c.self.inside.core c.self.inside.outbox c.self.inside.backlog.items c.in-Some.link g.S.Write.contents c.args.self.now
    c.in-Some-pop_front.request c.pop_front.new.self.items c.hand_over.new.link c.hand_over.result c.outcome.result e c.in-Some-pop_front.ensures.items
    c.hand_over.ensures c.outcome.ensures

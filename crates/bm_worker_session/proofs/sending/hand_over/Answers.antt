use Rattle.std.proofs.Common.{rules, ◌≡◌, ◌<◌, length, get_or, subst}
use Rattle.bm_work.specs.declared.sent.Sent.{Sent}
use Rattle.bm_worker_session.proofs.Handing.{Loses, Sends, lost_at, sent_more}
use Rattle.bm_worker_session.proofs.sending.hand_over.Goals as goal

-- the requests before this one were sent
pub returns-in-Err : goal.returns-in-Err
returns-in-Err g c =
    let lt : c.loop-request.request-index < length c.args.requests.now = search rules in
    let same : c.request-item.result ≡ get_or c.args.requests.now c.loop-request.request-index c.request-item.result = search rules in
    lost_at g.S.Write.contents c.args.requests.now c.loop-request.request-index c.request-item.result c.args.link.now c.loop-request.link c.send.new.self c.in-Err._fault
    lt c.loop-request.invariant
    (subst (λ (s : Sent). Loses g.S.Write.contents s c.loop-request.link c.in-Err._fault c.send.new.self) same (c.in-Err.ensures.sent, c.in-Err.ensures.named))

pub loop-request-preserved : goal.loop-request-preserved
loop-request-preserved g c =
    let lt : c.loop-request.request-index < length c.args.requests.now = search rules in
    let same : c.request-item.result ≡ get_or c.args.requests.now c.loop-request.request-index c.request-item.result = search rules in
    sent_more g.S.Write.contents c.args.requests.now c.loop-request.request-index c.request-item.result c.args.link.now c.loop-request.link c.send.new.self
    lt c.loop-request.invariant
    (subst (λ (s : Sent). Sends g.S.Write.contents s c.loop-request.link c.send.new.self) same (c.in-Ok.ensures.sent, c.in-Ok.ensures.named))

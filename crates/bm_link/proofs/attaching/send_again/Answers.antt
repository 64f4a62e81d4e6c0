use Rattle.std.proofs.Common.{rules, ◌≡◌, ◌<◌, length, get_or, subst, List, ℕ}
use Rattle.bm_link.specs.Causes.{IsUnsent}
use Rattle.bm_link.specs.Sending.{SendsBytes}
use Rattle.bm_link.proofs.Sending.{fails_at, sends_more}
use Rattle.bm_link.proofs.attaching.send_again.Goals as goal

-- the orders before this one were sent
pub returns-in-Err-clause-unsent : goal.returns-in-Err-clause-unsent
returns-in-Err-clause-unsent g c =
    let lt : c.loop-order.order-index < length c.args.orders.now = search rules in
    let same : c.as_slice.result.now ≡ (get_or c.args.orders.now c.loop-order.order-index c.order-item.result).bytes = search rules in
    fails_at g.S.Write.contents c.args.orders.now c.loop-order.order-index c.order-item.result c.args.socket.now c.loop-order.socket c.send.new.socket c.in-Err.fault
    lt c.loop-order.invariant
    (subst (λ (bs : List ℕ). IsUnsent g.S.Write.contents bs c.loop-order.socket c.in-Err.fault c.send.new.socket) same c.in-Err.ensures.unsent)

pub loop-order-preserved : goal.loop-order-preserved
loop-order-preserved g c =
    let lt : c.loop-order.order-index < length c.args.orders.now = search rules in
    let same : c.as_slice.result.now ≡ (get_or c.args.orders.now c.loop-order.order-index c.order-item.result).bytes = search rules in
    sends_more g.S.Write.contents c.args.orders.now c.loop-order.order-index c.order-item.result c.args.socket.now c.loop-order.socket c.send.new.socket
    lt c.loop-order.invariant
    (subst (λ (bs : List ℕ). SendsBytes g.S.Write.contents bs c.loop-order.socket c.send.new.socket) same c.in-Ok.ensures.sent)

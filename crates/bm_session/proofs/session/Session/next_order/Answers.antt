use Rattle.std.proofs.Common.{◌≡◌, ◌≤◌, arith, length}
use Rattle.bm_session.specs.Trace.{orders}
use Rattle.bm_session.proofs.Taking.{orders_le-length}
use Rattle.bm_session.proofs.session.Session.next_order.Goals as goal

pub returns-clause-small : goal.returns-clause-small
returns-clause-small c =
    let events = c.self.inside.events in
    let few : orders events.items ≤ length events.items = orders_le-length events.items in
    let counted : c.self.inside.table.orders ≡ orders events.items = c.self.invariant.table.numbered in
    omega (arith, events.ok, events.small)

use Rattle.bm_lanes.proofs.dealt_lanes.DealtLanes.in_order.Goals as goal

pub returns-then-is_in_order-clause-web_viewers : goal.returns-then-is_in_order-clause-web_viewers
returns-then-is_in_order-clause-web_viewers g c = rw c.as_slice.ensures.value at (c.is_in_order.ensures c.if-is_in_order.true)

use Rattle.std.proofs.Common.{rules, false}
use Rattle.bm_lane_actor.proofs.port.LanePort.orders.Goals as goal

pub returns-then-acts : goal.returns-then-acts
returns-then-acts g c = (c.interrupt-is_kept.result, search rules, search rules)

pub returns-else-acts : goal.returns-else-acts
returns-else-acts g c = (false, search rules, search rules)

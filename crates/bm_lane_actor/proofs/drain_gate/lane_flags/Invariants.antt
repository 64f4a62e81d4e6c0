use Rattle.std.proofs.Common.{◌-◌, ◌≤◌, vec_len}
use Rattle.bm_lane_actor.proofs.drain_gate.lane_flags.Given as goal

abbrev pub invariant-loop-lanes : goal.invariant-loop-lanes
invariant-loop-lanes l = vec_len l.lanes ≤ l.count

abbrev pub decreases-loop-lanes : goal.decreases-loop-lanes
decreases-loop-lanes l = l.count - vec_len l.lanes

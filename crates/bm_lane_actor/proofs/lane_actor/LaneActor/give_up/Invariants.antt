use Rattle.std.proofs.Common.{◌≡◌}
use Rattle.bm_lane_actor.proofs.lane_actor.LaneActor.give_up.Given as goal

abbrev pub invariant-loop : goal.invariant-loop
invariant-loop g l = l.self ≡ l.initial.self

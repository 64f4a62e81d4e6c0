use Rattle.std.proofs.Common.{◌≡◌}
use Rattle.bm_lane_actor.specs.LaneActors.{with_state}
use Rattle.bm_lane_actor.proofs.lane_actor.LaneActor.pass_ticks.Given as goal

abbrev pub invariant-loop : goal.invariant-loop
invariant-loop g l = l.self ≡ with_state l.initial.self l.self.state l.initial.self.lively

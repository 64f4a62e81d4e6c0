use Rattle.std.proofs.Common.{rules}
use Rattle.bm_lane_actor.proofs.lane_actor.LaneActor.admit.Goals as goal

pub returns-in-Ok : goal.returns-in-Ok
returns-in-Ok g c = (c.attach-answer.result, c.welcome.ensures.0, c.welcome.ensures.1, search rules, search rules)

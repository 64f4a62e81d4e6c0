use Rattle.bm_lane_actor.proofs.LaneLawful.{none_waits}
use Rattle.bm_lane_actor.proofs.lane_laws.none_waits_behind_the_end.Goals as goal

pub returns : goal.returns
returns c = none_waits

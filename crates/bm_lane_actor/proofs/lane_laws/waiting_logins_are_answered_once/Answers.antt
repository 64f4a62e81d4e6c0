use Rattle.bm_lane_actor.proofs.LaneLawful.{waiting_answered_once}
use Rattle.bm_lane_actor.proofs.lane_laws.waiting_logins_are_answered_once.Goals as goal

pub returns : goal.returns
returns c = waiting_answered_once

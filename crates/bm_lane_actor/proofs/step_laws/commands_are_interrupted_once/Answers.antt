use Rattle.bm_lane_actor.proofs.StepLawful.{interrupted_once}
use Rattle.bm_lane_actor.proofs.step_laws.commands_are_interrupted_once.Goals as goal

pub returns : goal.returns
returns c = interrupted_once

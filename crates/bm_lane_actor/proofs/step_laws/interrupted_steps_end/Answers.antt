use Rattle.bm_lane_actor.proofs.StepLawful.{cancelled_steps_end, limited_steps_end, steps_end_soon}
use Rattle.bm_lane_actor.proofs.step_laws.interrupted_steps_end.Goals as goal

pub returns-clause-limited : goal.returns-clause-limited
returns-clause-limited c = limited_steps_end

pub returns-clause-cancelled : goal.returns-clause-cancelled
returns-clause-cancelled c = cancelled_steps_end

pub returns-clause-soon : goal.returns-clause-soon
returns-clause-soon c = steps_end_soon

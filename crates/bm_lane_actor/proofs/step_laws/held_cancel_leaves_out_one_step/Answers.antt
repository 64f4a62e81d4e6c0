use Rattle.bm_lane_actor.proofs.StepLawful.{held_cancel_leaves_out_one, held_cancel_waits, no_more_are_left_out}
use Rattle.bm_lane_actor.proofs.step_laws.held_cancel_leaves_out_one_step.Goals as goal

pub returns-clause-waits : goal.returns-clause-waits
returns-clause-waits c = held_cancel_waits

pub returns-clause-one : goal.returns-clause-one
returns-clause-one c = held_cancel_leaves_out_one

pub returns-clause-counted : goal.returns-clause-counted
returns-clause-counted c = no_more_are_left_out

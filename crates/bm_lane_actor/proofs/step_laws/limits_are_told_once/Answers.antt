use Rattle.bm_lane_actor.proofs.StepLawful.{limits_told_once, one_limit_a_command}
use Rattle.bm_lane_actor.proofs.step_laws.limits_are_told_once.Goals as goal

pub returns-clause-once : goal.returns-clause-once
returns-clause-once c = limits_told_once

pub returns-clause-counted : goal.returns-clause-counted
returns-clause-counted c = one_limit_a_command

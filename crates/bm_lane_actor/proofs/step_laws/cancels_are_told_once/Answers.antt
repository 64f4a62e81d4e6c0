use Rattle.bm_lane_actor.proofs.StepLawful.{cancels_are_told, cancels_told_once, one_cancel_told_once}
use Rattle.bm_lane_actor.proofs.step_laws.cancels_are_told_once.Goals as goal

pub returns-clause-counted : goal.returns-clause-counted
returns-clause-counted c = cancels_told_once

pub returns-clause-told : goal.returns-clause-told
returns-clause-told c = cancels_are_told

pub returns-clause-once : goal.returns-clause-once
returns-clause-once c = one_cancel_told_once

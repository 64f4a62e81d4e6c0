use Rattle.bm_lane_actor.proofs.LaneLawful.{asked_have_time, heard_not_failed, only_read_fail, unasked_not_failed}
use Rattle.bm_lane_actor.proofs.lane_laws.silent_workers_are_asked_first.Goals as goal

pub returns-clause-unasked : goal.returns-clause-unasked
returns-clause-unasked c = unasked_not_failed

pub returns-clause-heard : goal.returns-clause-heard
returns-clause-heard c = heard_not_failed

pub returns-clause-time : goal.returns-clause-time
returns-clause-time c = asked_have_time

pub returns-clause-read : goal.returns-clause-read
returns-clause-read c = only_read_fail

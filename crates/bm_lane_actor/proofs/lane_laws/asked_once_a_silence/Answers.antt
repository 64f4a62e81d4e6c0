use Rattle.bm_lane_actor.proofs.LaneLawful.{asked_once, asked_once_each, not_asked_sooner, silent_asked}
use Rattle.bm_lane_actor.proofs.lane_laws.asked_once_a_silence.Goals as goal

pub returns-clause-once : goal.returns-clause-once
returns-clause-once c = asked_once

pub returns-clause-each : goal.returns-clause-each
returns-clause-each c = asked_once_each

pub returns-clause-asked : goal.returns-clause-asked
returns-clause-asked c = silent_asked

pub returns-clause-sooner : goal.returns-clause-sooner
returns-clause-sooner c = not_asked_sooner

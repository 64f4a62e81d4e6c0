use Rattle.bm_lane_actor.proofs.LaneLawful.{asked_given_up, asked_not_sooner, wanted_given_up, wanted_not_sooner}
use Rattle.bm_lane_actor.proofs.lane_laws.silent_workers_are_given_up.Goals as goal

pub returns-clause-asked : goal.returns-clause-asked
returns-clause-asked c = asked_given_up

pub returns-clause-wanted : goal.returns-clause-wanted
returns-clause-wanted c = wanted_given_up

pub returns-clause-asked_sooner : goal.returns-clause-asked_sooner
returns-clause-asked_sooner c = asked_not_sooner

pub returns-clause-wanted_sooner : goal.returns-clause-wanted_sooner
returns-clause-wanted_sooner c = wanted_not_sooner

use Rattle.bm_latent.proofs.MachineLawful.{asked_in_time, killed_in_time, none_is_forgotten, programs_are_to_end}
use Rattle.bm_latent.proofs.machine_laws.none_is_forgotten.Goals as goal

pub returns-clause-due : goal.returns-clause-due
returns-clause-due c = programs_are_to_end

pub returns-clause-asked : goal.returns-clause-asked
returns-clause-asked c = asked_in_time

pub returns-clause-killed : goal.returns-clause-killed
returns-clause-killed c = killed_in_time

pub returns-clause-soon : goal.returns-clause-soon
returns-clause-soon c = none_is_forgotten

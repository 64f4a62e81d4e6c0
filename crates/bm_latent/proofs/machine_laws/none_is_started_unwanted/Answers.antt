use Rattle.bm_latent.proofs.MachineLawful.{ended_masters_start_none, none_is_started_unwanted}
use Rattle.bm_latent.proofs.machine_laws.none_is_started_unwanted.Goals as goal

pub returns-clause-wanted : goal.returns-clause-wanted
returns-clause-wanted c = none_is_started_unwanted

pub returns-clause-over : goal.returns-clause-over
returns-clause-over c = ended_masters_start_none

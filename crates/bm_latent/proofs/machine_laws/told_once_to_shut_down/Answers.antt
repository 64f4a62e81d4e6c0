use Rattle.bm_latent.proofs.MachineLawful.{dismissed_are_not_told, told_once_to_shut_down}
use Rattle.bm_latent.proofs.machine_laws.told_once_to_shut_down.Goals as goal

pub returns-clause-counted : goal.returns-clause-counted
returns-clause-counted c = told_once_to_shut_down

pub returns-clause-over : goal.returns-clause-over
returns-clause-over c = dismissed_are_not_told

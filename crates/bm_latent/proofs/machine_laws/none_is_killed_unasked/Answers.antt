use Rattle.bm_latent.proofs.MachineLawful.{new_programs_are_unasked, none_is_killed_unasked}
use Rattle.bm_latent.proofs.machine_laws.none_is_killed_unasked.Goals as goal

pub returns-clause-unasked : goal.returns-clause-unasked
returns-clause-unasked c = none_is_killed_unasked

pub returns-clause-begun : goal.returns-clause-begun
returns-clause-begun c = new_programs_are_unasked

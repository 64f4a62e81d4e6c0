use Rattle.bm_latent.proofs.MachineLawful.{one_program_runs, starts_where_none_runs}
use Rattle.bm_latent.proofs.machine_laws.one_program_runs.Goals as goal

pub returns-clause-counted : goal.returns-clause-counted
returns-clause-counted c = one_program_runs

pub returns-clause-told : goal.returns-clause-told
returns-clause-told c = starts_where_none_runs

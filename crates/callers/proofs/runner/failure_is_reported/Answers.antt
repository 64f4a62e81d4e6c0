use Rattle.callers.proofs.RunnerTells.{run_fails}
use Rattle.callers.proofs.runner.failure_is_reported.Goals as goal

pub returns : goal.returns
returns g c = run_fails _ _ _ _ _ _ c.requires.one_step c.run_build.ensures.run

use Rattle.callers.proofs.RunnerTells.{run_tells}
use Rattle.callers.proofs.runner.some_step_is_started.Goals as goal

pub returns : goal.returns
returns g c = run_tells _ _ _ _ _ _ c.requires.some_step c.run_build.ensures.run

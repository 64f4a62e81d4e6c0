use Rattle.bm_runner.proofs.Runs.{IsAt}
use Rattle.bm_runner.proofs.run.run_build.Given as goal

abbrev pub invariant-loop-place : goal.invariant-loop-place
invariant-loop-place g l =
    IsAt l.steps l.turns (g.P.Port.told l.fn.port) (g.P.Port.told l.port) (g.P.Port.refused l.port) l.outcomes l.place

use Rattle.std.proofs.Common.{◌≡◌, ◌++◌, ◌∷◌, [], None, false}
use Rattle.bm_runner.proofs.run.run_step.Given as goal

abbrev pub invariant-loop : goal.invariant-loop
invariant-loop g l =
    (g.P.Port.told l.port ≡ g.P.Port.told l.fn.port ++ record { k = l.k; polls = l.counter; ended = None } ∷ []) × (g.P.Port.refused l.port ≡ false)

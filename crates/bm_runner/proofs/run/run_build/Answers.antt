use Rattle.std.proofs.Common.{◌≡◌, Bool, List, sym, ap, subst, ◌∙◌, arith}
use Rattle.bm_session.specs.declared.results.Results.{Results}
use Rattle.bm_runner.specs.Run.{runs_at}
use Rattle.bm_runner.proofs.Runs.{IsAt, at_start, past_skipped, past_run, not_refused}
use Rattle.bm_runner.proofs.run.run_build.Goals as goal
use Rattle.bm_runner.proofs.run.run_build.Goals.{then-runs_at, else-runs_at}

pub loop-place-init : goal.loop-place-init
loop-place-init g c = at_start _ _ _ _ _ c.requires c.in_ok-outcomes.ensures

pub loop-place-preserved : goal.loop-place-preserved
loop-place-preserved g c =
    let steps = c.as_slice-steps.result.now in
    let outcomes = c.loop-place.outcomes in
    let i = c.loop-place.place in
    let at = c.loop-place.invariant in
    let asked : runs_at steps outcomes i ≡ c.runs_at.result = ap (λ (os : List Results). runs_at steps os i) (sym c.as_slice.ensures) ∙ sym c.runs_at.ensures in
    elim c.if-runs_at.branch [
      | then-runs_at w ↦
          let does = asked ∙ w.if-runs_at.true in
          rw (w.port-is, w.outcomes-is, w.set.ensures)
          (past_run _ _ _ _ _ _ _ _ _ (omega arith) does w.run_step.ensures
          (subst (λ (r : Bool). IsAt steps c.args.turns (g.P.Port.told c.args.port.now) (g.P.Port.told c.loop-place.port) r outcomes i) (not_refused _ _ _ _ _ _ _ does at) at))
      | else-runs_at w ↦ rw (w.port-is, w.outcomes-is) (past_skipped _ _ _ _ _ _ _ (omega arith) (asked ∙ w.if-runs_at.false) at)
    ]

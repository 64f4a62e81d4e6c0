use Rattle.std.proofs.Common.{◌≡◌}
use Rattle.bm_lane_actor.specs.declared.start_progress.StartStage.TheVariants as stage
use Rattle.bm_lane_actor.proofs.orders.start.Given as goal

abbrev pub invariant-loop : goal.invariant-loop
invariant-loop g l = l.progress.stage ≡ stage.Asking

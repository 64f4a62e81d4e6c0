use Rattle.std.proofs.Common.{◌≡◌}
use Rattle.bm_world.specs.World.{start, answers_of, after_steps}
use Rattle.bm_world.proofs.world.World.run.Given as goal

abbrev pub invariant-loop-step : goal.invariant-loop-step
invariant-loop-step l = record {
  world : l.world ≡ after_steps (start l.capacity) l.yielded;
  answered : l.answers.items ≡ answers_of (start l.capacity) l.yielded;
}

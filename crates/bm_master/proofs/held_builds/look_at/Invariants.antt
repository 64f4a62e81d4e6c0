use Rattle.std.proofs.Common.{◌≡◌}
use Rattle.bm_master.proofs.held_builds.look_at.Given as goal

abbrev pub invariant-loop : goal.invariant-loop
invariant-loop g l =
    (l.build.number ≡ l.fn.build.number) × (l.build.viewer.lane ≡ l.fn.build.viewer.lane)
    × (l.build.commands ≡ l.fn.build.commands)

use Rattle.std.proofs.Common.{◌≡◌}
use Rattle.bm_lanes.proofs.all_ends.settle_lane.Given as goal

abbrev pub invariant-loop : goal.invariant-loop
invariant-loop g l = l.ends.reader ≡ l.fn.ends.reader

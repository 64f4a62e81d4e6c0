use Rattle.std.proofs.Common.{◌<◌, ◌≤◌, length}
use Rattle.bm_lane.specs.Tallies.{drains}
use Rattle.bm_lane.proofs.pool.work.Given as goal

abbrev pub invariant-loop : goal.invariant-loop
invariant-loop g l = record {
  lane : l.lane < length l.lanes;
  counted : drains l.tally ≤ l.counter;
}

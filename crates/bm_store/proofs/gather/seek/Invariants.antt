use Rattle.std.proofs.Common.{◌≡◌, ◌≤◌, ◌<◌, ◌-◌, length, map, take, Some}
use Rattle.std.specs.Prelude.{slice_get}
use Rattle.bm_session.specs.Trace.{joined}
use Rattle.bm_store.specs.Placing.{block_at}
use Rattle.bm_store.specs.declared.placed.Placed.{Placed}
use Rattle.bm_store.proofs.gather.seek.Given as goal

abbrev pub invariant-loop-high : goal.invariant-loop-high
invariant-loop-high l = record {
  inside : l.high ≤ length l.blocks;
  apart : 0 < length l.blocks → l.low < l.high;
  empty : l.low ≤ l.high;
  stands : l.before ≡ length (joined (take l.low (map block_at l.blocks)));
  reached : l.before ≤ l.offset;
  ahead : (p : Placed) → slice_get l.blocks l.high ≡ Some p → l.offset < p.first;
}

abbrev pub decreases-loop-high : goal.decreases-loop-high
decreases-loop-high l = l.high - l.low

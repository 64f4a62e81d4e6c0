use Rattle.std.proofs.Common.{◌≡◌, ◌≤◌, ◌<◌, ℕ, take, length, vec_capacity, get_or}
use mathlib.Core.List.{IsPrefix}
use Rattle.bm_lane.specs.Ends.{Watched, seen_counts}
use Rattle.bm_lane.proofs.settling.count_seen.Given as goal

abbrev pub invariant-loop-viewer : goal.invariant-loop-viewer
invariant-loop-viewer g l = record {
  same : l.publisher ≡ l.initial.publisher;
  seen : l.seen.items ≡ seen_counts (take l.viewer-index l.viewers);
  begin : (k : ℕ) → k < l.viewer-index → (d : Watched) → IsPrefix (get_or l.viewers k d).seen l.initial.publisher.shown;
  room : length l.viewers ≤ vec_capacity l.seen;
}

use Rattle.std.proofs.Common.{◌≡◌, ◌+◌, ◌≤◌, map, Some, vec_len, vec_capacity}
use Rattle.std.specs.Vec.Iter.{into_iter_len}
use Rattle.bm_http.specs.Placed.{IsPlaced}
use Rattle.bm_http.proofs.lane_viewers.LaneViewers.new.Given as goal

abbrev pub invariant-loop-viewer : goal.invariant-loop-viewer
invariant-loop-viewer g l = record {
  added : l.places.items ≡ map Some l.yielded;
  placed : IsPlaced l.places.items;
  room : vec_len l.places + into_iter_len l.viewer-iterator ≤ vec_capacity l.room;
}

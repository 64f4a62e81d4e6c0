use Rattle.std.proofs.Common.{◌≡◌, ◌+◌, ◌≤◌, map, Some, vec_len, vec_capacity}
use Rattle.std.specs.Vec.Iter.{into_iter_len}
use Rattle.bm_http.proofs.lane_viewers.LaneViewers.into_vec.Given as goal

abbrev pub invariant-loop-place : goal.invariant-loop-place
invariant-loop-place g l = record {
  kept : l.yielded ≡ map Some l.room.items;
  room : vec_len l.room + into_iter_len l.place-iterator ≤ vec_capacity l.room;
}

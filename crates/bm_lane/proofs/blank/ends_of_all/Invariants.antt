use Rattle.std.proofs.Common.{◌≡◌, ◌+◌, ◌≤◌, ◌++◌, All, length, map, vec_len, vec_capacity}
use Rattle.std.specs.Vec.Iter.{into_iter_items, into_iter_len}
use Rattle.bm_lane.specs.Placed.{ArePlaced, new_readers, new_writers, AreItsViewers}
use Rattle.bm_lane.proofs.blank.ends_of_all.Given as goal

abbrev pub invariant-loop-blank : goal.invariant-loop-blank
invariant-loop-blank g l = record {
  placed : ArePlaced g.Y.Yard.queue g.Y.Yard.copy l.lane (into_iter_items l.blank-iterator);
  count : l.lane + into_iter_len l.blank-iterator ≡ vec_len l.fn.blanks;
  left : length (into_iter_items l.blank-iterator) ≡ into_iter_len l.blank-iterator;
  made : vec_len l.all ≡ l.lane;
  room : vec_len l.fn.blanks ≤ vec_capacity l.all;
  readers : map (λ e. e.reader) l.all.items ++ new_readers l.lane (into_iter_items l.blank-iterator) ≡ new_readers 0 l.fn.blanks.items;
  writers : map (λ e. e.writer) l.all.items ++ new_writers l.lane (into_iter_items l.blank-iterator) ≡ new_writers 0 l.fn.blanks.items;
  viewers : All (λ e. AreItsViewers e.writer e.viewers.items) l.all.items;
}

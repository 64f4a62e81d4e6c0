use Rattle.std.proofs.Common.{◌≡◌, ◌+◌, ◌≤◌, [], length, vec_len, vec_capacity}
use Rattle.bm_lane.specs.BookReaders.{AllFresh}
use Rattle.bm_lane.specs.Ends.{AllNew}
use Rattle.bm_lane.proofs.blank.placed.Given as goal

abbrev pub invariant-loop-book_reader : goal.invariant-loop-book_reader
invariant-loop-book_reader g l = record {
  own : AllFresh (g.Y.Yard.copy l.lane) [] l.book_readers.items;
  new : AllNew l.lane l.placed.items;
  count : length l.placed.items + length l.book_readers.items ≡ length l.initial.book_readers.items;
  room : length l.initial.book_readers.items ≤ vec_capacity l.placed;
}

abbrev pub decreases-loop-book_reader : goal.decreases-loop-book_reader
decreases-loop-book_reader g l = vec_len l.book_readers

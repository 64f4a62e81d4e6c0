use Rattle.std.proofs.Common.{◌≡◌, drop, length}
use Rattle.left_right.specs.Sides.{view}
use Rattle.bm_lane.specs.BookReaders.{AllFresh}
use Rattle.bm_lane.proofs.copy.book_readers.Given as goal

abbrev pub invariant-loop-made : goal.invariant-loop-made
invariant-loop-made l = record {
  shown : l.copy.desk.shown ≡ l.initial.copy.desk.shown;
  rest : drop l.copy.behind l.copy.log.items ≡ drop l.initial.copy.behind l.initial.copy.log.items;
  told : view l.copy.desk.place ≡ view l.initial.copy.desk.place;
  fresh : AllFresh l.initial.copy.desk.shown.value.front.book l.initial.copy.desk.shown.value.front.log l.book_readers.items;
  count : length l.book_readers.items ≡ l.made;
}

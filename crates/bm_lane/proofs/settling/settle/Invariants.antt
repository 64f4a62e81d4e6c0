use Rattle.std.proofs.Common.{◌≡◌, ◌≤◌, [], length, vec_capacity}
use Rattle.bm_lane.specs.Ends.{IsBack}
use Rattle.bm_lane.proofs.settling.settle.Given as goal

abbrev pub invariant-loop : goal.invariant-loop
invariant-loop g l = record {
  reader : l.reader ≡ l.initial.reader;
  back : IsBack l.initial.writer l.writer;
  empty : l.seen.items ≡ [];
  room : length l.viewers.items ≤ vec_capacity l.seen;
}

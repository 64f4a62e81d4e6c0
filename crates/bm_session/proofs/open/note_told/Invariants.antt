use Rattle.std.proofs.Common.{◌≡◌, ◌++◌, map, take, drop}
use Rattle.std.specs.Prelude.{vec_capacity}
use Rattle.bm_session.specs.Table.{with_told}
use Rattle.bm_session.proofs.open.note_told.Given as goal

abbrev pub invariant-loop-i : goal.invariant-loop-i
invariant-loop-i l = record {
  items : l.listed.items ≡ map (with_told l.command l.told) (take l.i l.initial.listed.items) ++ drop l.i l.initial.listed.items;
  capacity : vec_capacity l.listed ≡ vec_capacity l.initial.listed;
}

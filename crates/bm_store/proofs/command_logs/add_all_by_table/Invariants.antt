use Rattle.std.proofs.Common.{◌≡◌, take}
use Rattle.bm_lines.specs.Places.{HasPlaces}
use Rattle.bm_store.specs.Kept.{names_kept, with_parts}
use Rattle.bm_store.proofs.command_logs.add_all_by_table.Given as goal

abbrev pub invariant-loop-i : goal.invariant-loop-i
invariant-loop-i l = record {
  added : l.logs.items ≡ with_parts (take l.i l.parts) l.fn.logs.items;
  known : HasPlaces l.places (names_kept l.logs.items);
}

use Rattle.std.proofs.Common.{take}
use Rattle.bm_lines.specs.Places.{HasPlaces}
use Rattle.bm_store.specs.Kept.{names_kept}
use Rattle.bm_store.proofs.command_logs.table_of.Given as goal

abbrev pub invariant-loop-i : goal.invariant-loop-i
invariant-loop-i l = HasPlaces l.places (names_kept (take l.i l.logs.items))

use Rattle.std.proofs.Common.{take}
use Rattle.bm_lines.specs.LineBatches.{names_of}
use Rattle.bm_lines.specs.Places.{HasPlaces}
use Rattle.bm_lines.proofs.line_batch_builder.table_of.Given as goal

abbrev pub invariant-loop-i : goal.invariant-loop-i
invariant-loop-i l = HasPlaces l.places (names_of (take l.i l.parts))

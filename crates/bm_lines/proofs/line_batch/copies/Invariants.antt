use Rattle.std.proofs.Common.{◌≡◌, take}
use Rattle.bm_lines.proofs.line_batch.copies.Given as goal

abbrev pub invariant-loop-part : goal.invariant-loop-part
invariant-loop-part l = l.out.items ≡ take l.part-index l.parts

use Rattle.std.proofs.Common.{◌≡◌, ◌+◌, bytes_eq, drop}
use Rattle.std.specs.List.{position_or_len}
use Rattle.bm_lines.proofs.line_batch.place.Given as goal

abbrev pub invariant-loop-part : goal.invariant-loop-part
invariant-loop-part l = (l.i ≡ l.part-index) × (position_or_len (λ x. bytes_eq x.name l.name) l.parts ≡ l.i + position_or_len (λ x. bytes_eq x.name l.name) (drop l.i l.parts))

use Rattle.std.proofs.Common.{map, string_bytes}
use Rattle.bm_lines.specs.Contents.{IsContent}
use Rattle.bm_lines.proofs.content.write_parts.Given as goal

abbrev pub invariant-loop-part : goal.invariant-loop-part
invariant-loop-part l =
    (goal.iterator-loop-part).can_next l.part-iterator ×
    (goal.iterator-loop-part).is_finite l.part-iterator ×
    IsContent (map (λ part. record { letter = l.letter; text = part.now }) l.yielded) (string_bytes l.text) l.begins.items

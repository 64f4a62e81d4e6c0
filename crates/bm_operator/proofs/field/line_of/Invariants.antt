use Rattle.std.proofs.Common.{◌≡◌, ◌++◌, drop, flat_map, string_bytes}
use Rattle.bm_operator.specs.Told.{fields_view, field_text}
use Rattle.bm_operator.proofs.field.line_of.Given as goal

abbrev pub invariant-loop-field : goal.invariant-loop-field
invariant-loop-field l =
    flat_map field_text (fields_view l.fields)
    ≡ string_bytes l.line ++ flat_map field_text (fields_view (drop l.field-index l.fields))

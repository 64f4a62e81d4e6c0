use Rattle.std.proofs.Common.{◌≡◌, ◌++◌, drop, flat_map, string_bytes}
use Rattle.bm_operator.specs.Told.{fields_view, member_text}
use Rattle.bm_operator.proofs.field.members_of.Given as goal

abbrev pub invariant-loop-field : goal.invariant-loop-field
invariant-loop-field l =
    flat_map member_text (fields_view l.fields)
    ≡ string_bytes l.members ++ flat_map member_text (fields_view (drop l.field-index l.fields))

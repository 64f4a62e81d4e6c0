use Rattle.std.proofs.Common.{◌≡◌, drop, map}
use Rattle.bm_value.specs.View.{tree, trees_of}
use Rattle.bm_msg.specs.Items.{fields_of}
use Rattle.bm_msg.proofs.FieldLists.{with_rest}
use Rattle.bm_msg.proofs.items.own_all.Given as goal

-- what the items carry is what was found and what the rest carries
abbrev pub invariant-loop-part : goal.invariant-loop-part
invariant-loop-part g l = fields_of (trees_of (map tree l.parts)) ≡ with_rest l.fields.items (drop l.part-index l.parts)

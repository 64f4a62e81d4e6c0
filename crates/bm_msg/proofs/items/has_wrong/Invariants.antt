use Rattle.std.proofs.Common.{◌≡◌, drop, map}
use Rattle.std.specs.Option.{is_none}
use Rattle.bm_value.specs.View.{tree, trees_of}
use Rattle.bm_msg.specs.Items.{fields_of}
use Rattle.bm_msg.proofs.items.has_wrong.Given as goal

-- one of the items is wrong where one of the rest is
abbrev pub invariant-loop-part : goal.invariant-loop-part
invariant-loop-part g l = is_none (fields_of (trees_of (map tree l.parts))) ≡ is_none (fields_of (trees_of (map tree (drop l.part-index l.parts))))

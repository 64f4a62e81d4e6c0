use Rattle.std.proofs.Common.{◌≡◌, take, map}
use Rattle.bm_value.specs.View.{tree}
use Rattle.bm_msg.specs.Trees.{item_of}
use Rattle.bm_msg.proofs.item_writing.items.Given as goal

abbrev pub invariant-loop-field : goal.invariant-loop-field
invariant-loop-field l = map tree l.vec.items ≡ map item_of (take l.field-index l.fields)

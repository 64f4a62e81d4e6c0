use Rattle.std.proofs.Common.{◌∙◌, ap, map}
use Rattle.std.proofs.lemmas.List.{take_all}
use Rattle.bm_value.specs.Tree.{array}
use Rattle.bm_value.specs.View.{trees_of}
use Rattle.bm_msg.specs.Trees.{item_of}
use Rattle.bm_msg.proofs.TreeLists.{array_of}
use Rattle.bm_msg.proofs.item_writing.items.Goals as goal

pub returns : goal.returns
returns c =
    array_of c.loop-field.vec
    ∙ ap (λ ts. array (trees_of ts)) (c.loop-field.invariant ∙ ap (map item_of) (take_all c.loop-field.field-index c.as_slice-fields.result.now c.loop-field-test.false ∙ c.as_slice-fields.ensures))

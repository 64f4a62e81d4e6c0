use Rattle.std.proofs.Common.{sym, ◌∙◌, ap, map}
use Rattle.bm_value.specs.Tree.{array}
use Rattle.bm_value.specs.View.{tree, trees_of}
use Rattle.bm_msg.specs.Items.{named}
use Rattle.bm_msg.proofs.ItemTrees.{array_is, named-two, named-short, two_are}
use Rattle.bm_msg.proofs.items.named.Goals as goal

pub returns-in-len2-up : goal.returns-in-len2-up
returns-in-len2-up g c =
    c.log_item.ensures
    ∙ sym (named-two (tree c.name-item.result) (tree c.value-item.result) _)
    ∙ sym (ap (λ ts. named (array ts)) (two_are c.as_slice.result.now c.name-item.result c.value-item.result c.in-len2-up.len_at_least c.name-item.is c.value-item.is))
    ∙ ap (λ xs. named (array (trees_of (map tree xs)))) c.as_slice.ensures.value
    ∙ sym (ap named (array_is c.args.value.now c.in-Array.items c.in-Array.is))

pub returns-in_default-as_slice : goal.returns-in_default-as_slice
returns-in_default-as_slice g c =
    sym (named-short c.as_slice.result.now c.in_default-as_slice.len_below)
    ∙ ap (λ xs. named (array (trees_of (map tree xs)))) c.as_slice.ensures.value
    ∙ sym (ap named (array_is c.args.value.now c.in-Array.items c.in-Array.is))

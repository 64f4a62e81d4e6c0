use Rattle.std.proofs.Common.{sym, ◌∙◌, ap, map, arith}
use Rattle.bm_value.specs.Tree.{array}
use Rattle.bm_value.specs.View.{tree, trees_of}
use Rattle.bm_msg.specs.Items.{item_fields}
use Rattle.bm_msg.proofs.ItemTrees.{array_is, item_fields-two, item_fields-other, two_alone}
use Rattle.bm_msg.proofs.items.seen_in.Goals as goal

pub returns-then-parts-ne2 : goal.returns-then-parts-ne2
returns-then-parts-ne2 g c =
    sym (item_fields-other c.as_slice-parts.result.now c.if-parts-ne2.true)
    ∙ ap (λ xs. item_fields (array (trees_of (map tree xs)))) c.as_slice-parts.ensures.value
    ∙ sym (ap item_fields (array_is c.args.item.now c.in-Array.parts c.in-Array.is))

pub returns : goal.returns
returns g c =
    c.item_parts.ensures
    ∙ sym (item_fields-two (tree c.index-parts-0.result) (tree c.index-parts-1.result))
    ∙ sym (ap (λ ts. item_fields (array ts)) (two_alone c.as_slice-parts.result.now c.index-parts-0.result c.index-parts-1.result (omega (arith, c.if-parts-ne2.false)) c.index-parts-0.is c.index-parts-1.is))
    ∙ ap (λ xs. item_fields (array (trees_of (map tree xs)))) c.as_slice-parts.ensures.value
    ∙ sym (ap item_fields (array_is c.args.item.now c.in-Array.parts c.in-Array.is))

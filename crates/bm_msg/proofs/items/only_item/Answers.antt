use Rattle.std.proofs.Common.{◌≡◌, sym, ◌∙◌, ap, map, arith}
use Rattle.bm_value.specs.View.{tree, trees_of, items_tree}
use Rattle.bm_value.proofs.Values.{items_tree-of}
use Rattle.bm_msg.specs.Items.{fields_of}
use Rattle.bm_msg.proofs.FieldLists.{fields_of-one, not_alone}
use Rattle.bm_msg.proofs.items.only_item.Goals as goal

pub returns-then-parts-ne1-clause-none : goal.returns-then-parts-ne1-clause-none
returns-then-parts-ne1-clause-none g c = λ only is.
    not_alone c.as_slice-parts.result.now c.if-parts-ne1.true only (ap (λ xs. trees_of (map tree xs)) c.as_slice-parts.ensures.value ∙ sym (items_tree-of c.args.items.now.vec) ∙ is)

pub returns-clause-some : goal.returns-clause-some
returns-clause-some g c =
    let whole : fields_of (trees_of (map tree c.as_slice-parts.result.now)) ≡ fields_of (items_tree c.args.items.now) =
    ap (λ xs. fields_of (trees_of (map tree xs))) c.as_slice-parts.ensures.value ∙ ap fields_of (sym (items_tree-of c.args.items.now.vec)) in
    c.seen_in.ensures ∙ fields_of-one c.as_slice-parts.result.now c.index-parts-0.result (omega (arith, c.if-parts-ne1.false)) c.index-parts-0.is ∙ whole

use Rattle.std.proofs.Common.{◌≡◌, sym, ◌∙◌, ap, map, true, false}
use Rattle.std.specs.Option.{is_none}
use Rattle.bm_value.specs.View.{tree, trees_of, items_tree}
use Rattle.bm_value.proofs.Values.{items_tree-of}
use Rattle.bm_msg.specs.Items.{fields_of}
use Rattle.bm_msg.proofs.FieldLists.{none_is, some_is, told_where}
use Rattle.bm_msg.proofs.items.fields.Goals as goal

pub returns-then-has_wrong-clause-found : goal.returns-then-has_wrong-clause-found
returns-then-has_wrong-clause-found g c =
    let wrong : is_none (fields_of (items_tree c.args.items.now)) ≡ true =
    ap (λ ts. is_none (fields_of ts)) (items_tree-of c.args.items.now.vec) ∙ ap (λ xs. is_none (fields_of (trees_of (map tree xs)))) (sym c.as_slice-parts.ensures.value) ∙ sym c.has_wrong.ensures ∙ c.if-has_wrong.true in
    none_is _ wrong

pub returns-in_err-own_all-clause-told : goal.returns-in_err-own_all-clause-told
returns-in_err-own_all-clause-told g c =
    let right : is_none (fields_of (items_tree c.args.items.now)) ≡ false =
    ap (λ ts. is_none (fields_of ts)) (items_tree-of c.args.items.now.vec) ∙ ap (λ xs. is_none (fields_of (trees_of (map tree xs)))) (sym c.as_slice-parts.ensures.value) ∙ sym c.has_wrong.ensures ∙ c.if-has_wrong.false in
    told_where c.from_residual.result _ (some_is _ right)

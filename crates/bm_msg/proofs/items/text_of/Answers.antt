use Rattle.std.proofs.Common.{◌≡◌, sym, ◌∙◌, ap, map, Some}
use Rattle.std.specs.Prelude.{slice_get}
use Rattle.std.specs.Option.{option_copied}
use Rattle.bm_value.specs.Tree.{array}
use Rattle.bm_value.specs.View.{tree, trees_of}
use Rattle.bm_msg.specs.Items.{text_of}
use Rattle.bm_msg.proofs.ItemTrees.{array_is, text_of-first, first_is, no_first}
use Rattle.bm_msg.proofs.items.text_of.Goals as goal

pub returns-in-Some : goal.returns-in-Some
returns-in-Some g c =
    let first : slice_get c.deref.result.now 0 ≡ Some c.in-Some.first.now = sym c.first.ensures.value ∙ ap option_copied c.in-Some.is in
    c.str_of.ensures ∙ sym (text_of-first (tree c.in-Some.first.now) _)
    ∙ sym (ap (λ ts. text_of (array ts)) (first_is c.deref.result.now c.in-Some.first.now first))
    ∙ ap (λ xs. text_of (array (trees_of (map tree xs)))) c.deref.ensures.value
    ∙ sym (ap text_of (array_is c.args.value.now c.in-Array.items c.in-Array.is))

pub returns-in-None : goal.returns-in-None
returns-in-None g c =
    let empty = no_first c.deref.result.now (sym c.first.ensures.value ∙ ap option_copied c.in-None.is) in
    sym (ap (λ xs. text_of (array (trees_of (map tree xs)))) (sym c.deref.ensures.value ∙ empty))
    ∙ sym (ap text_of (array_is c.args.value.now c.in-Array.items c.in-Array.is))

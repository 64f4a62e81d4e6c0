use Rattle.std.proofs.Common.{◌≡◌, ◌<◌, ◌^◌, map, sym, ap, subst, ◌∙◌, rules, arith}
use Rattle.bm_value.specs.Tree.{array, dict, count, count_of_pairs}
use Rattle.bm_value.specs.View.{tree, trees_of, items_tree, pair_tree, pairs_of, pairs_tree}
use Rattle.bm_value.specs.Limits.{IsShort, AreShort, PairsAreShort, IsShortPair}
use Rattle.bm_value.proofs.Shortness.{item_rest, pair_rest, items_more, items_stop, pairs_more, pairs_stop, items_same, pairs_same}
use Rattle.bm_value.proofs.Values.{tree-Array, tree-Map}
use Rattle.bm_value.proofs.Written.{items_out, pairs_out, items_len, pairs_len}
use Rattle.bm_value.proofs.limits.+short.Goals as goal

pub is_short-returns-then-fits_field : goal.is_short-returns-then-fits_field
is_short-returns-then-fits_field g t c =
    let is : tree c.args.value.now ≡ array (items_tree c.in-Array.items) = ap tree c.in-Array.is ∙ tree-Array c.in-Array.items in
    let fits : count (items_tree c.in-Array.items) < 2 ^ 32 = omega (arith, items_len c.in-Array.items, c.len.ensures, c.fits_field-in-Array.ensures.0 c.if-fits_field.true) in
    (λ h. subst IsShort (sym is) (fits, c.items_are_short.ensures.0 h), λ h. c.items_are_short.ensures.1 (subst IsShort is h).1)

pub is_short-returns-else-fits_field : goal.is_short-returns-else-fits_field
is_short-returns-else-fits_field g t c =
    let is : tree c.args.value.now ≡ array (items_tree c.in-Array.items) = ap tree c.in-Array.is ∙ tree-Array c.in-Array.items in
    (λ h. absurd cc, λ h. c.fits_field-in-Array.ensures.1 (omega (arith, items_len c.in-Array.items, c.len.ensures, (subst IsShort is h).0)))

pub is_short-returns-then-fits_field-2 : goal.is_short-returns-then-fits_field-2
is_short-returns-then-fits_field-2 g t c =
    let is : tree c.args.value.now ≡ dict (pairs_tree c.in-Map.pairs) = ap tree c.in-Map.is ∙ tree-Map c.in-Map.pairs in
    let fits : count_of_pairs (pairs_tree c.in-Map.pairs) < 2 ^ 32 = omega (arith, pairs_len c.in-Map.pairs, c.len-in-Map.ensures, c.fits_field-in-Map.ensures.0 c.if-fits_field-2.true) in
    (λ h. subst IsShort (sym is) (fits, c.pairs_are_short.ensures.0 h), λ h. c.pairs_are_short.ensures.1 (subst IsShort is h).1)

pub is_short-returns-else-fits_field-2 : goal.is_short-returns-else-fits_field-2
is_short-returns-else-fits_field-2 g t c =
    let is : tree c.args.value.now ≡ dict (pairs_tree c.in-Map.pairs) = ap tree c.in-Map.is ∙ tree-Map c.in-Map.pairs in
    (λ h. absurd cc, λ h. c.fits_field-in-Map.ensures.1 (omega (arith, pairs_len c.in-Map.pairs, c.len-in-Map.ensures, (subst IsShort is h).0)))

pub items_are_short-loop-item-init : goal.items_are_short-loop-item-init
items_are_short-loop-item-init g t c =
    items_same _ _ (items_out c.args.items.now ∙ ap (λ vs. trees_of (map tree vs)) (sym c.deref-item-items.ensures.value))

pub items_are_short-returns-then-not-is_short : goal.items_are_short-returns-then-not-is_short
items_are_short-returns-then-not-is_short g t c =
    let e = item_rest c.deref-item-items.result.now c.loop-item.item-index c.item-item.result c.loop-item-test.true c.item-item.is in
    let long : IsShort (tree c.item-item.result) → ⊥ = λ h. let true = c.is_short.ensures.1 h in absurd cc in
    (λ h. absurd cc, λ h. absurd (items_stop (AreShort (items_tree c.args.items.now)) _ _ _ e long c.loop-item.invariant h))

pub items_are_short-loop-item-preserved : goal.items_are_short-loop-item-preserved
items_are_short-loop-item-preserved g t c =
    let e = item_rest c.deref-item-items.result.now c.loop-item.item-index c.item-item.result c.loop-item-test.true c.item-item.is in
    items_more (AreShort (items_tree c.args.items.now)) _ _ _ e (c.is_short.ensures.0 (search rules)) c.loop-item.invariant

pub pairs_are_short-loop-pair-init : goal.pairs_are_short-loop-pair-init
pairs_are_short-loop-pair-init g t c =
    pairs_same _ _ (pairs_out c.args.pairs.now ∙ ap (λ ps. pairs_of (map pair_tree ps)) (sym c.deref-pair-items.ensures.value))

pub pairs_are_short-returns-then-not-is_short_pair : goal.pairs_are_short-returns-then-not-is_short_pair
pairs_are_short-returns-then-not-is_short_pair g t c =
    let e = pair_rest c.deref-pair-items.result.now c.loop-pair.pair-index c.pair-item.result c.loop-pair-test.true c.pair-item.is in
    let long : IsShortPair (pair_tree c.pair-item.result) → ⊥ = λ h. let true = c.is_short_pair.ensures.1 h in absurd cc in
    (λ h. absurd cc, λ h. absurd (pairs_stop (PairsAreShort (pairs_tree c.args.pairs.now)) _ _ _ e long c.loop-pair.invariant h))

pub pairs_are_short-loop-pair-preserved : goal.pairs_are_short-loop-pair-preserved
pairs_are_short-loop-pair-preserved g t c =
    let e = pair_rest c.deref-pair-items.result.now c.loop-pair.pair-index c.pair-item.result c.loop-pair-test.true c.pair-item.is in
    pairs_more (PairsAreShort (pairs_tree c.args.pairs.now)) _ _ _ e (c.is_short_pair.ensures.0 (search rules)) c.loop-pair.invariant

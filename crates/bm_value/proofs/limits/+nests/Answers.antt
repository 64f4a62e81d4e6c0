use Rattle.std.proofs.Common.{◌≤◌, map, sym, ap, ◌∙◌, arith}
use Rattle.std.proofs.lemmas.Grind.{common_steps}
use Rattle.bm_value.specs.Tree.{depth, depth_of_items, depth_of_pair, depth_of_pairs}
use Rattle.bm_value.specs.View.{tree, trees_of, pair_tree, pairs_of}
use Rattle.bm_value.proofs.Nesting.{nest_more, nest_stops, item_next, pair_next, nests_same}
use Rattle.bm_value.proofs.Written.{items_out, pairs_out}
use Rattle.bm_value.proofs.limits.+nests.Goals as goal

pub items_nest-loop-item-init : goal.items_nest-loop-item-init
items_nest-loop-item-init g t c =
    nests_same c.args.room _ _ (ap depth_of_items (items_out c.args.items.now) ∙ ap (λ vs. depth_of_items (trees_of (map tree vs))) (sym c.deref-item-items.ensures.value))

pub items_nest-returns-then-not-nests_within : goal.items_nest-returns-then-not-nests_within
items_nest-returns-then-not-nests_within g t c =
    let e = item_next c.deref-item-items.result.now c.loop-item.item-index c.item-item.result c.loop-item-test.true c.item-item.is in
    let deep : depth (tree c.item-item.result) ≤ c.args.room → ⊥ = grind (arith, common_steps) in
    (λ h. absurd cc, λ h. absurd (nest_stops c.args.room _ _ _ _ e deep c.loop-item.invariant h))

pub items_nest-loop-item-preserved : goal.items_nest-loop-item-preserved
items_nest-loop-item-preserved g t c =
    let e = item_next c.deref-item-items.result.now c.loop-item.item-index c.item-item.result c.loop-item-test.true c.item-item.is in
    let fits : depth (tree c.item-item.result) ≤ c.args.room = grind (arith, common_steps) in
    nest_more c.args.room _ _ _ _ e fits c.loop-item.invariant

pub pairs_nest-loop-pair-init : goal.pairs_nest-loop-pair-init
pairs_nest-loop-pair-init g t c =
    nests_same c.args.room _ _ (ap depth_of_pairs (pairs_out c.args.pairs.now) ∙ ap (λ ps. depth_of_pairs (pairs_of (map pair_tree ps))) (sym c.deref-pair-items.ensures.value))

pub pairs_nest-returns-then-not-pair_nests : goal.pairs_nest-returns-then-not-pair_nests
pairs_nest-returns-then-not-pair_nests g t c =
    let e = pair_next c.deref-pair-items.result.now c.loop-pair.pair-index c.pair-item.result c.loop-pair-test.true c.pair-item.is in
    let deep : depth_of_pair (pair_tree c.pair-item.result) ≤ c.args.room → ⊥ = grind (arith, common_steps) in
    (λ h. absurd cc, λ h. absurd (nest_stops c.args.room _ _ _ _ e deep c.loop-pair.invariant h))

pub pairs_nest-loop-pair-preserved : goal.pairs_nest-loop-pair-preserved
pairs_nest-loop-pair-preserved g t c =
    let e = pair_next c.deref-pair-items.result.now c.loop-pair.pair-index c.pair-item.result c.loop-pair-test.true c.pair-item.is in
    let fits : depth_of_pair (pair_tree c.pair-item.result) ≤ c.args.room = grind (arith, common_steps) in
    nest_more c.args.room _ _ _ _ e fits c.loop-pair.invariant

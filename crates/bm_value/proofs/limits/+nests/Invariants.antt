use Rattle.std.proofs.Common.{drop, map}
use Rattle.bm_value.specs.Tree.{depth_of_items, depth_of_pairs}
use Rattle.bm_value.specs.View.{tree, trees_of, pair_tree, pairs_of, items_tree, pairs_tree}
use Rattle.bm_value.proofs.Nesting.{SameNesting}
use Rattle.bm_value.proofs.limits.+nests.Given as goal

-- the items so far nest so deep, so that the rest decide
abbrev pub invariant-items_nest-loop-item : goal.invariant-items_nest-loop-item
invariant-items_nest-loop-item g l = SameNesting l.room (depth_of_items (items_tree l.items)) (depth_of_items (trees_of (map tree (drop l.item-index l.item-items))))

abbrev pub invariant-pairs_nest-loop-pair : goal.invariant-pairs_nest-loop-pair
invariant-pairs_nest-loop-pair g l = SameNesting l.room (depth_of_pairs (pairs_tree l.pairs)) (depth_of_pairs (pairs_of (map pair_tree (drop l.pair-index l.pair-items))))

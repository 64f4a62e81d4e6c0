use Rattle.std.proofs.Common.{drop, map}
use Rattle.bm_value.specs.View.{tree, trees_of, pair_tree, pairs_of, items_tree, pairs_tree}
use Rattle.bm_value.specs.Limits.{AreShort, PairsAreShort}
use Rattle.bm_value.proofs.Shortness.{SameFact}
use Rattle.bm_value.proofs.limits.+short.Given as goal

-- the items so far are short, so that the rest decide
abbrev pub invariant-items_are_short-loop-item : goal.invariant-items_are_short-loop-item
invariant-items_are_short-loop-item g l = SameFact (AreShort (items_tree l.items)) (AreShort (trees_of (map tree (drop l.item-index l.item-items))))

abbrev pub invariant-pairs_are_short-loop-pair : goal.invariant-pairs_are_short-loop-pair
invariant-pairs_are_short-loop-pair g l = SameFact (PairsAreShort (pairs_tree l.pairs)) (PairsAreShort (pairs_of (map pair_tree (drop l.pair-index l.pair-items))))

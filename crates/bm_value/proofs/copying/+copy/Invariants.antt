use Rattle.std.proofs.Common.{◌≡◌, take, map}
use Rattle.bm_value.specs.View.{tree, pair_tree}
use Rattle.bm_value.proofs.copying.+copy.Given as goal

abbrev pub invariant-items_copied-loop-item : goal.invariant-items_copied-loop-item
invariant-items_copied-loop-item g l = map tree l.made.items ≡ map tree (take l.item-index l.item-items)

abbrev pub invariant-pairs_copied-loop-pair : goal.invariant-pairs_copied-loop-pair
invariant-pairs_copied-loop-pair g l = map pair_tree l.made.items ≡ map pair_tree (take l.pair-index l.pair-items)

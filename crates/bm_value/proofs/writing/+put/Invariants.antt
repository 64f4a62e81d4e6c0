use Rattle.std.proofs.Common.{◌≡◌, ◌+◌, ◌*◌, ◌++◌, take}
use Rattle.std.specs.List.{flat_map}
use Rattle.bm_value.specs.Tree.{depth, depth_of_pair, depth_of_items, depth_of_pairs}
use Rattle.bm_value.specs.View.{tree, items_tree, pair_tree, pairs_tree}
use Rattle.bm_value.specs.Writing.{written, written_pair}
use Rattle.bm_value.proofs.Formed.{AllFormed, PairsFormed}
use Rattle.bm_value.proofs.writing.+put.Given as goal

abbrev pub decreases-put : goal.decreases-put
decreases-put g l = 4 * depth (tree l.value.now)

abbrev pub decreases-put_pair : goal.decreases-put_pair
decreases-put_pair g l = 4 * depth_of_pair (pair_tree l.pair.now) + 1

abbrev pub decreases-put_each : goal.decreases-put_each
decreases-put_each g l = 4 * depth_of_items (items_tree l.values.now) + 2

abbrev pub decreases-put_pairs : goal.decreases-put_pairs
decreases-put_pairs g l = 4 * depth_of_pairs (pairs_tree l.pairs.now) + 2

abbrev pub decreases-put_array : goal.decreases-put_array
decreases-put_array g l = 4 * depth_of_items (items_tree l.items.now) + 3

abbrev pub decreases-put_map : goal.decreases-put_map
decreases-put_map g l = 4 * depth_of_pairs (pairs_tree l.pairs.now) + 3

abbrev pub invariant-put_each-loop-value : goal.invariant-put_each-loop-value
invariant-put_each-loop-value g l = (l.out.items ≡ l.fn.out.items ++ flat_map (λ v. written (tree v)) (take l.value-index l.value-items)) × AllFormed (take l.value-index l.value-items)

abbrev pub invariant-put_pairs-loop-pair : goal.invariant-put_pairs-loop-pair
invariant-put_pairs-loop-pair g l = (l.out.items ≡ l.fn.out.items ++ flat_map (λ p. written_pair (pair_tree p)) (take l.pair-index l.pair-items)) × PairsFormed (take l.pair-index l.pair-items)

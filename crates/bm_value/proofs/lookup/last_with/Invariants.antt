use Rattle.std.proofs.Common.{◌≡◌, ◌≤◌, drop, map, length}
use Rattle.std.specs.Prelude.{None}
use Rattle.bm_value.specs.Field.{last_with}
use Rattle.bm_value.specs.View.{pair_tree, pairs_of, pairs_in}
use Rattle.bm_value.proofs.lookup.last_with.Given as goal

-- none of the pairs from there on has the key
abbrev pub invariant-loop-left : goal.invariant-loop-left
invariant-loop-left g l = (l.left ≤ length (pairs_in l.pairs)) × (last_with l.key (pairs_of (map pair_tree (drop l.left (pairs_in l.pairs)))) ≡ None)

abbrev pub decreases-loop-left : goal.decreases-loop-left
decreases-loop-left g l = l.left

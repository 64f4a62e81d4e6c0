use Rattle.std.proofs.Common.{◌≡◌, ◌-◌, ◌+◌, ◌*◌, map}
use Rattle.bm_value.specs.View.{tree, pair_tree}
use Rattle.bm_value.specs.Reading.{mapped, items_at, pairs_at, value_at}
use Rattle.bm_value.proofs.Loops.{onto, onto_pairs}
use Rattle.bm_value.proofs.reader.Reader.+read.Given as goal

abbrev pub decreases-array : goal.decreases-array
decreases-array g l = 4 * l.room

abbrev pub decreases-map : goal.decreases-map
decreases-map g l = 4 * l.room

abbrev pub decreases-value : goal.decreases-value
decreases-value g l = 4 * l.room + 1

abbrev pub decreases-pair : goal.decreases-pair
decreases-pair g l = 4 * l.room + 2

abbrev pub decreases-items : goal.decreases-items
decreases-items g l = 4 * l.room + 3

abbrev pub decreases-pairs : goal.decreases-pairs
decreases-pairs g l = 4 * l.room + 3

abbrev pub invariant-items-items : goal.invariant-items-items
invariant-items-items g l = mapped (onto (map tree l.vec.items)) (items_at (value_at l.room) (l.count - l.counter) l.self.rest.now) ≡ items_at (value_at l.room) l.count l.fn.self.rest.now

abbrev pub invariant-pairs-pairs : goal.invariant-pairs-pairs
invariant-pairs-pairs g l = mapped (onto_pairs (map pair_tree l.vec.items)) (pairs_at (value_at l.room) (l.count - l.counter) l.self.rest.now) ≡ pairs_at (value_at l.room) l.count l.fn.self.rest.now

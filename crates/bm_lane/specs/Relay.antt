-- What was put is what was taken and then what the queue holds. One pass at most may put, and it
-- has the list of what was put. The same for taking.
use Rattle.std.specs.Prelude.{◌≡◌, ℕ, Bool, true, List, ◌++◌}
use mathlib.Core.Option.{some}
use Rattle.crossbeam_queue.specs.Passes.{Pass, view}
use lib.ListN.{get_elem?}
use Rattle.bm_session.specs.declared.item.Item.{Item}
use Rattle.bm_lane.specs.declared.relay.Hand.{Hand}

abbrev pub hand : Bool → Bool → List Item → List Item → Hand
hand a b put taken = record { puts = a; takes = b; put = put; taken = taken }

-- what the pass at a port knows agrees with the lists, where it may put or may take
abbrev pub Fits : ℕ → ℕ → List Item → List Item → ℕ → Hand → Type 0
Fits writer reader put taken port v =
    (v.puts ≡ true → (port ≡ writer) × (v.put ≡ put))
    × (v.takes ≡ true → (port ≡ reader) × (v.taken ≡ taken))

abbrev pub Relayed : List Item → List Hand → Type 0
Relayed items views =
    (writer : ℕ) × (reader : ℕ) × (put : List Item) × (taken : List Item) × (put ≡ taken ++ items)
    × ((port : ℕ) (v : Hand) → get_elem? views port ≡ some v → Fits writer reader put taken port v)

-- what a pass knows
abbrev pub known : Pass Item Hand → Hand
known p = view p

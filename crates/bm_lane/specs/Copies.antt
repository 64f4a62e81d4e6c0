-- What holds of the published copy between any two steps, and what a step tells.
use Rattle.std.specs.Prelude.{◌≡◌, ℕ, List, [], length, fold, Option, Some}
use mathlib.Core.Option.{some}
use mathlib.Core.List.{IsPrefix}
use lib.ListN.{get_elem?}
use Rattle.bm_session.specs.declared.item.Item.{Item}
use Rattle.bm_store.specs.Kept.{Kept, kept_after}
use Rattle.bm_lane.specs.Fronts.{Front}
use Rattle.bm_lane.specs.declared.published.Published.{Published}

-- what a book keeps after items
abbrev pub kept_book : List Item → List Kept
kept_book is = fold kept_after [] is

-- what a seat has seen, once it was told anything
abbrev pub Sight : Type 0
Sight = Option Front

-- a copy is the book of its history
abbrev pub IsBook : Published → Type 0
IsBook x = (x.book ≡ kept_book x.front.log) × (x.count ≡ length x.front.log)

-- what was seen is a beginning of the copy's history
abbrev pub Begins : Front → Published → Type 0
Begins s x = (x.front.book ≡ s.book) × IsPrefix s.log x.front.log

abbrev pub Keeps : Published → List Sight → Type 0
Keeps x views =
    IsBook x × ((seat : ℕ) (s : Front) → get_elem? views seat ≡ some (Some s) → Begins s x)

-- the copy was seen; it begins with what was seen before
abbrev pub Shows : Sight → Published → Published → Sight → Type 0
Shows v x y w = (w ≡ Some y.front) × IsBook y × ((s : Front) → v ≡ Some s → Begins s y)

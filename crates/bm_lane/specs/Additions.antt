-- Items that the published copy lacks.
use Rattle.std.specs.Prelude.{◌≡◌, List, [], ◌∷◌, ◌++◌, length, Option, Some, None}
use Rattle.bm_session.specs.declared.item.Item.{Item}
use Rattle.bm_store.specs.Kept.{Kept}
use Rattle.bm_lane.specs.Fronts.{Front, HistoryId}
use Rattle.bm_lane.specs.declared.published.Addition.{Addition}

-- each adds its item to the history before it
abbrev pub Chain : Front → List Addition → Type 0
Chain f [] = Unit {0}
Chain f (op ∷ ops) =
    (op.front.book ≡ f.book) × (op.front.log ≡ f.log ++ op.item ∷ [])
    × (op.count ≡ length op.front.log) × Chain op.front ops

-- the history after them
abbrev pub last_front : Front → List Addition → Front
last_front f [] = f
last_front f (op ∷ ops) = last_front op.front ops

abbrev pub items_of : List Addition → List Item
items_of [] = []
items_of (op ∷ ops) = op.item ∷ items_of ops

abbrev pub kept_list : Option Addition → List Addition
kept_list None = []
kept_list (Some op) = op ∷ []

-- what a publisher is to a contract: its history, what is shown of it, what is held, and what the
-- published book keeps
pub record Showing : Type 0 where
  pub history : HistoryId
  pub shown : List Item
  pub held : List Item
  pub kept : List Kept

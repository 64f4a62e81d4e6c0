-- What a reader of the published copy is to a contract.
use Rattle.std.specs.Prelude.{◌≡◌, List, All}
use Rattle.bm_session.specs.declared.item.Item.{Item}
use Rattle.bm_lane.specs.Fronts.{HistoryId}

-- which history it sees, and what it saw of that
pub record Looked : Type 0 where
  pub history : HistoryId
  pub seen : List Item

-- each has seen this much of this history
abbrev pub AllFresh : HistoryId → List Item → List Looked → Type 0
AllFresh history seen bs = All (λ (b : Looked). (b.history ≡ history) × (b.seen ≡ seen)) bs

-- What contracts see of a lane's ends.
use Rattle.std.specs.Prelude.{◌≡◌, ◌≤◌, ℕ, List, [], ◌∷◌, ◌++◌, length, map, All}
use mathlib.Core.List.{IsPrefix}
use Rattle.atomic_table.specs.Seated.{TableId}
use Rattle.bm_session.specs.declared.event.Event.{Event}
use Rattle.bm_session.specs.declared.item.Item.{Item}
use Rattle.bm_store.specs.Kept.{Kept, logs_in}
use Rattle.bm_store.specs.Book.{book}
use Rattle.bm_lane.specs.Fronts.{HistoryId}

-- a queue and a copy without a lane: which of all they are, how many items the queue takes, and the
-- number of viewers
pub record Blanked : Type 0 where
  pub queue : TableId
  pub copy : HistoryId
  pub capacity : ℕ
  pub viewers : ℕ

-- a reader's end: the events that were taken, and the items that were put into the queue
pub record Heard : Type 0 where
  pub lane : ℕ
  pub capacity : ℕ
  pub trace : List Event
  pub put : List Item

-- a writer's end: how many viewers its lane has, and what the published book keeps; the items that
-- were taken from the queue. Of these some are shown to viewers, others held until there is memory.
pub record Written : Type 0 where
  pub lane : ℕ
  pub viewers : ℕ
  pub taken : List Item
  pub shown : List Item
  pub held : List Item
  pub kept : List Kept

-- a viewer: the items that it has seen
pub record Watched : Type 0 where
  pub lane : ℕ
  pub seen : List Item

-- what was taken is what was shown and then one held item at most; the published book is that of
-- what was shown
pub record IsWritten (w : Written) : Type 0 where
  pub in_order : w.taken ≡ w.shown ++ w.held
  pub few : length w.held ≤ 1
  pub published : logs_in w.kept ≡ book w.shown

-- of the same lane
abbrev pub IsSame : Written → Written → Type 0
IsSame old new = (new.lane ≡ old.lane) × (new.viewers ≡ old.viewers)

-- this item was the held one, if one was
abbrev pub WasFirst : Written → Item → Type 0
WasFirst old x = (y : Item) → old.held ≡ y ∷ [] → y ≡ x

-- one item more is shown: the held one, or else one that was popped
abbrev pub ShowsOne : Written → Written → Type 0
ShowsOne old new =
    (x : Item) × (new.shown ≡ old.shown ++ x ∷ []) × (new.held ≡ []) × IsSame old new
    × WasFirst old x

-- nothing more is shown, and what was held or popped is held
abbrev pub HoldsOne : Written → Written → Type 0
HoldsOne old new =
    (x : Item) × (new.shown ≡ old.shown) × (new.held ≡ x ∷ []) × IsSame old new × WasFirst old x

-- the same lane's, which has shown no less
abbrev pub IsBack : Written → Written → Type 0
IsBack old new = IsSame old new × IsPrefix old.shown new.shown

-- each viewer is of this lane
abbrev pub AllOf : ℕ → List Watched → Type 0
AllOf lane vs = All (λ (v : Watched). v.lane ≡ lane) vs

-- what each viewer has seen is a beginning of these
abbrev pub AllBegin : List Item → List Watched → Type 0
AllBegin xs vs = All (λ (v : Watched). IsPrefix v.seen xs) vs

-- how many items each viewer has seen
abbrev pub seen_counts : List Watched → List ℕ
seen_counts vs = map (λ (v : Watched). length v.seen) vs

-- each is a viewer of this lane that has seen nothing
abbrev pub AllNew : ℕ → List Watched → Type 0
AllNew lane vs = All (λ (v : Watched). (v.lane ≡ lane) × (v.seen ≡ [])) vs

-- an item is held: the one that was, or else one that was popped
abbrev pub IsReady : Written → Written → Type 0
IsReady old new = HoldsOne old new × (new.kept ≡ old.kept)

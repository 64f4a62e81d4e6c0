-- What a look of a viewer gives.
use Rattle.std.specs.Prelude.{◌≡◌, ◌⊎◌, ℕ, List, Result, Err}
use mathlib.Core.List.{IsPrefix}
use Rattle.bm_lines.specs.Names.{Name}
use Rattle.bm_session.specs.declared.item.Item.{Item}
use Rattle.bm_store.specs.declared.chunk.Chunk.{Chunk}
use Rattle.bm_store.specs.declared.chunk.LogState.{LogState}
use Rattle.bm_store.specs.declared.chunk.ViewRefusal.{ViewRefusal}
use Rattle.bm_store.specs.declared.chunk.ViewRefusal.TheVariants.{Closed}
use Rattle.bm_store.specs.declared.portion.Portion.{Portion}
use Rattle.bm_store.specs.Book.{book}
use Rattle.bm_store.specs.Portions.{LooksAtPortion}
use Rattle.bm_lane.specs.Answers.{Answered, told, lines_of_book, state_of_book}
use Rattle.bm_lane.specs.Ends.{Watched}

-- A viewer now has seen no less than before, and answered what is said of that. Or else it answered
-- Closed, and nothing changed.
pub record Looks {A : Type 0} (old new : Watched) (r : Result A ViewRefusal) (said : List Item
    → Type 0) : Type 0 where
  pub lane : new.lane ≡ old.lane
  pub seen : IsPrefix old.seen new.seen
  pub answer : (r ≡ Err Closed) ⊎ said new.seen
  pub closed : r ≡ Err Closed → new ≡ old

-- the asked lines of a log
abbrev pub GivesChunk : Watched → Watched → ℕ → Name → ℕ → ℕ → Result Chunk ViewRefusal → Type 0
GivesChunk old new k name off lim r =
    Looks old new r (λ seen. Answered (lines_of_book seen k name off lim) r)

-- a portion of the text of these lines, behind its first bytes: most bytes at most
abbrev pub GivesPortion
    : Watched → Watched → ℕ → Name → ℕ → ℕ → ℕ → ℕ → Result Portion ViewRefusal → Type 0
GivesPortion old new k name off lim skip most r =
    Looks old new r (λ seen. LooksAtPortion (book seen) k name off lim skip most r)

-- the state of a log
abbrev pub GivesState : Watched → Watched → ℕ → Name → Result LogState ViewRefusal → Type 0
GivesState old new k name r = Looks old new r (λ seen. r ≡ told (state_of_book seen k name))

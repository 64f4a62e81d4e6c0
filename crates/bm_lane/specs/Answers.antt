-- What a viewer is answered.
use Rattle.std.specs.Prelude.{◌≡◌, ◌⊎◌, ℕ, List, Option, Some, None, option_map, Result, Ok, Err}
use Rattle.bm_lines.specs.Names.{Name}
use Rattle.bm_session.specs.declared.item.Item.{Item}
use Rattle.bm_store.specs.declared.chunk.Chunk.{Chunk}
use Rattle.bm_store.specs.declared.chunk.LogState.{LogState}
use Rattle.bm_store.specs.declared.chunk.ViewRefusal.{ViewRefusal}
use Rattle.bm_store.specs.declared.chunk.ViewRefusal.TheVariants.{NoLog, Mem}
use Rattle.bm_store.specs.Book.{book, chunk_in, chunk_of, state_in}

-- the asked lines of a log of the book of these items, where it is there
abbrev pub lines_of_book : List Item → ℕ → Name → ℕ → ℕ → Option Chunk
lines_of_book seen k name off lim = option_map (chunk_of off) (chunk_in (book seen) k name off lim)

-- its state
abbrev pub state_of_book : List Item → ℕ → Name → Option LogState
state_of_book seen k name = state_in (book seen) k name

-- what was asked, unless memory was wanting; or that it is not there
abbrev pub Answered : {A : Type 0} → Option A → Result A ViewRefusal → Type 0
Answered (Some a) r = (r ≡ Ok a) ⊎ (r ≡ Err Mem)
Answered None r = r ≡ Err NoLog

-- what was asked, or that it is not there
abbrev pub told : {A : Type 0} → Option A → Result A ViewRefusal
told (Some a) = Ok a
told None = Err NoLog

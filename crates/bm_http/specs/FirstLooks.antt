-- What one viewer of so many shows of what is asked for, at one look.
use Rattle.std.specs.Prelude.{◌≡◌, ◌⊎◌, ℕ, ◌/◌, ◌%◌, Option, Some, None, Result, Err}
use mathlib.Core.List.{IsPrefix}
use Rattle.bm_lines.specs.Names.{Name}
use Rattle.bm_store.specs.declared.chunk.Chunk.{Chunk}
use Rattle.bm_store.specs.declared.chunk.LogState.{LogState}
use Rattle.bm_store.specs.declared.chunk.ViewRefusal.{ViewRefusal}
use Rattle.bm_store.specs.declared.chunk.ViewRefusal.TheVariants.{Closed}
use Rattle.bm_lane.specs.Answers.{Answered, told, lines_of_book, state_of_book}
use Rattle.bm_lane.specs.Ends.{Watched}
use Rattle.bm_http.specs.declared.first_look.FirstLook.{FirstLook}
use Rattle.bm_http.specs.declared.first_look.FirstLook.TheVariants.{Whole, Long}
use Rattle.bm_http.specs.Requests.{Asked, refused, state, lines}
use Rattle.bm_http.specs.Replies.{Reply, page, refusal, chunk_reply, state_reply}
use Rattle.bm_http.specs.Shown.{told_by}

-- a viewer went on, and has seen no less
abbrev pub GoesOn : Watched → Watched → Type 0
GoesOn v w = (w.lane ≡ v.lane) × IsPrefix v.seen w.seen

-- it answered the asked lines of a log as they stand in what it has seen, or could not look
abbrev pub ShowsLines : Watched → ℕ → Name → ℕ → ℕ → Result Chunk ViewRefusal → Type 0
ShowsLines w k name off lim r =
    (r ≡ Err Closed) ⊎ Answered (lines_of_book w.seen k name off lim) r

-- the same of the state of a log
abbrev pub ShowsState : Watched → ℕ → Name → Result LogState ViewRefusal → Type 0
ShowsState w k name r = (r ≡ Err Closed) ⊎ (r ≡ told (state_of_book w.seen k name))

-- the reply that a first look gives: a long answer is the text of a page
abbrev pub shown_by : {Y : Type 0} → FirstLook Y → Reply
shown_by (Whole lookup) = told_by lookup
shown_by (Long text) = page text

-- the lane whose viewer is asked, of so many; none where no viewer is needed
abbrev pub lane_asked : Asked → ℕ → Option ℕ
lane_asked (refused r) lanes = None
lane_asked (state id name) lanes = Some (id % lanes)
lane_asked (lines id name off lim) lanes = Some (id % lanes)

-- the reply where no viewer is needed
abbrev pub Refuses : Asked → Reply → Type 0
Refuses (refused r) reply = reply ≡ refusal r
Refuses (state id name) reply = ⊥
Refuses (lines id name off lim) reply = ⊥

-- the reply to what is asked, where there are so many lanes, made of what a viewer of the log's
-- lane has seen
abbrev pub Tells : Asked → ℕ → Watched → Reply → Type 0
Tells (refused r) lanes w reply = reply ≡ refusal r
Tells (state id name) lanes w reply =
    (w.lane ≡ id % lanes) × (r : Result LogState ViewRefusal) × ShowsState w (id / lanes) name r
    × (reply ≡ state_reply id name r)
Tells (lines id name off lim) lanes w reply =
    (w.lane ≡ id % lanes) × (r : Result Chunk ViewRefusal) × ShowsLines w (id / lanes) name off lim r
    × (reply ≡ chunk_reply id r)

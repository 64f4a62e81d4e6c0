-- What is answered.
use Rattle.std.specs.Prelude.{◌≡◌, ◌⊎◌, ℕ, ◌/◌, ◌%◌, List, [], length, Some, Result, Ok, Err, is_some, slice_get, slice_set}
use mathlib.Core.List.{IsPrefix}
use Rattle.bm_lines.specs.Names.{Name}
use Rattle.bm_store.specs.declared.chunk.Chunk.{Chunk}
use Rattle.bm_store.specs.declared.chunk.LogState.{LogState}
use Rattle.bm_store.specs.declared.chunk.ViewRefusal.{ViewRefusal}
use Rattle.bm_store.specs.declared.chunk.ViewRefusal.TheVariants.{NoLog, Closed, Mem}
use Rattle.bm_lane.specs.Ends.{Watched}
use Rattle.bm_lane.specs.Looks.{GivesChunk, GivesState}
use Rattle.bm_http.specs.declared.request_refusal.RequestRefusal.{RequestRefusal}
use Rattle.bm_http.specs.declared.request_refusal.RequestRefusal.TheVariants.{NoSuchLog}
use Rattle.bm_http.specs.Refusals.{status_of, text_of}
use Rattle.bm_http.specs.Bodies.{contents_text, error_text, log_text}
use Rattle.bm_http.specs.Requests.{Asked, refused, state, lines, Asks}

-- a status and the bytes of a body
pub record Reply : Type 0 where
  pub status : ℕ
  pub body : List ℕ

abbrev pub page : List ℕ → Reply
page text = record { status = 200; body = text }

abbrev pub refusal : RequestRefusal → Reply
refusal r = record { status = status_of r; body = error_text (text_of r) }

abbrev pub unavailable : Reply
unavailable = record { status = 503; body = [] }

abbrev pub bad_request : Reply
bad_request = record { status = 400; body = [] }

-- what is answered where the viewer gave no log
abbrev pub no_view : ViewRefusal → Reply
no_view NoLog = refusal NoSuchLog
no_view Closed = unavailable
no_view Mem = unavailable

-- what is answered with a viewer's chunk, and with its state of a log
abbrev pub chunk_reply : ℕ → Result Chunk ViewRefusal → Reply
chunk_reply id (Ok chunk) = page (contents_text id chunk.first_line chunk.content)
chunk_reply id (Err e) = no_view e

abbrev pub state_reply : ℕ → Name → Result LogState ViewRefusal → Reply
state_reply id name (Ok s) = page (log_text id name (is_some s.ended) s.lines)
state_reply id name (Err e) = no_view e

-- the viewer of a lane went on, and no other one did
abbrev pub ChangesLane : List Watched → List Watched → ℕ → Watched → Watched → Type 0
ChangesLane old new lane v w = (slice_get old lane ≡ Some v) × (new ≡ slice_set old lane w)

-- the reply to what is asked: id is k times the number of lanes plus the lane
abbrev pub Answers : Asked → List Watched → List Watched → Reply → Type 0
Answers (refused r) old new reply = (reply ≡ refusal r) × (new ≡ old)
Answers (state id name) old new reply =
    (v : Watched) × (w : Watched) × (r : Result LogState ViewRefusal)
    × ChangesLane old new (id % length old) v w
    × GivesState v w (id / length old) name r × (reply ≡ state_reply id name r)
Answers (lines id name offset limit) old new reply =
    (v : Watched) × (w : Watched) × (r : Result Chunk ViewRefusal)
    × ChangesLane old new (id % length old) v w
    × GivesChunk v w (id / length old) name offset limit r × (reply ≡ chunk_reply id r)

-- the reply to a request
abbrev pub Replies : List ℕ → List ℕ → List Watched → List Watched → Reply → Type 0
Replies method target old new reply = (a : Asked) × Asks method target a × Answers a old new reply

-- at most one viewer has seen more
abbrev pub SeesOn : List Watched → List Watched → Type 0
SeesOn old new =
    (new ≡ old) ⊎ ((lane : ℕ) × (v : Watched) × (w : Watched) × ChangesLane old new lane v w
    × (w.lane ≡ v.lane) × IsPrefix v.seen w.seen)

-- A lane and its worker over connections that carry bytes: each message goes in a frame of its own.
-- A cut may fall anywhere, also inside a frame. Such a frame is never read.
use Rattle.std.specs.Prelude.{◌≡◌, ℕ, Bool, true, List, [], ◌∷◌, ◌++◌, length, take}
use mathlib.Core.List.{IsPrefix}
use Rattle.websocket.specs.declared.protocol.config.Role.{Role}
use Rattle.websocket.specs.declared.protocol.config.Role.TheVariants.{Server, Client}
use Rattle.bm_lines.specs.Names.{stdio}
use Rattle.bm_session.specs.Trace.{log, visible}
use Rattle.bm_work.specs.Core.{unanswered_requests}
use Rattle.bm_work.specs.Stream.{said}
use Rattle.bm_replay.specs.Schedule.{was_started}
use Rattle.bm_wired.specs.Cuts.{Joined, Step, Make, Break, Leave, Lose, Meet, Steps, Goes, apart}
use Rattle.bm_wired.specs.Service.{IsFrameOf}
use Rattle.bm_wired.specs.Wired.{Turn, Listen}

-- the frames of messages, one behind the other
abbrev pub AreFrames : Role → List (List ℕ) → List ℕ → Type 0
AreFrames role [] bytes = bytes ≡ []
AreFrames role (m ∷ ms) bytes =
    (frame : List ℕ) × (rest : List ℕ) × IsFrameOf role m frame × (bytes ≡ frame ++ rest)
    × AreFrames role ms rest

-- messages are written behind what is under way
abbrev pub Writes : Role → List (List ℕ) → List ℕ → List ℕ → Type 0
Writes role messages old new =
    (bytes : List ℕ) × AreFrames role messages bytes × (new ≡ old ++ bytes)

-- Both ends, and the bytes under way to the lane and to the worker. In the queues of the ends stand
-- only the messages that the last step wrote, or read and didn't take.
pub record OverBytes : Type 0 where
  pub ends : Joined
  pub up : List ℕ
  pub down : List ℕ

-- the ends, where these messages alone are there to be read
abbrev pub holding : Joined → List (List ℕ) → List (List ℕ) → Joined
holding x up down = record x { wired = record x.wired { up = up; down = down } }

-- What stays under way of what was there. Of a cut the numbers count bytes.
abbrev pub stays_up : Step → List ℕ → List ℕ
stays_up (Break up down) bytes = take up bytes
stays_up (Lose e) bytes = []
stays_up (Meet resumed named) bytes = []
stays_up s bytes = bytes

abbrev pub stays_down : Step → List ℕ → List ℕ
stays_down (Break up down) bytes = take down bytes
stays_down Leave bytes = []
stays_down (Meet resumed named) bytes = []
stays_down s bytes = bytes

-- a frame that was read is gone, but where its message wasn't taken
abbrev pub left : List (List ℕ) → List ℕ → List ℕ → List ℕ
left [] frame rest = rest
left (m ∷ ms) frame rest = frame ++ rest

-- A turn of either link reads the frame at the front of the bytes, which has to be whole.
abbrev pub StepsOver : OverBytes → Step → OverBytes → Type 0
StepsOver x (Make Turn) y =
    (m : List ℕ) × (frame : List ℕ) × (rest : List ℕ) × IsFrameOf Client m frame
    × (x.up ≡ frame ++ rest) × Steps (holding x.ends (m ∷ []) []) (Make Turn) y.ends
    × (y.up ≡ left y.ends.wired.up frame rest) × Writes Server y.ends.wired.down x.down y.down
StepsOver x (Make Listen) y =
    (m : List ℕ) × (frame : List ℕ) × (rest : List ℕ) × IsFrameOf Server m frame
    × (x.down ≡ frame ++ rest) × Steps (holding x.ends [] (m ∷ [])) (Make Listen) y.ends
    × (y.down ≡ left y.ends.wired.down frame rest) × Writes Client y.ends.wired.up x.up y.up
StepsOver x s y =
    Steps (holding x.ends [] []) s y.ends × Writes Client y.ends.wired.up (stays_up s x.up) y.up
    × Writes Server y.ends.wired.down (stays_down s x.down) y.down

abbrev pub GoesOver : OverBytes → List Step → OverBytes → Type 0
GoesOver x [] y = y ≡ x
GoesOver x (s ∷ ss) y = (mid : OverBytes) × StepsOver x s mid × GoesOver mid ss y

-- no worker was there yet
abbrev pub bytes_apart : ℕ → ℕ → Bool → OverBytes
bytes_apart id capacity resumable =
    record { ends = apart id capacity resumable; up = []; down = [] }

-- ---- the laws

-- Steps over whole messages lead to the same ends. They differ in their queues alone.
abbrev pub BytesAreMessages : Type 0
BytesAreMessages =
    (id capacity : ℕ) (resumable : Bool) (ss : List Step) (y : OverBytes)
    → GoesOver (bytes_apart id capacity resumable) ss y
    → (ms : List Step) × (x : Joined) × Goes (apart id capacity resumable) ms x
    × (x ≡ holding y.ends x.wired.up x.wired.down)

-- so each log is a beginning of what was reported
abbrev pub BytesAreLogged : Type 0
BytesAreLogged =
    (id capacity : ℕ) (resumable : Bool) (ss : List Step) (y : OverBytes) (k : ℕ)
    → GoesOver (bytes_apart id capacity resumable) ss y
    → IsPrefix (log y.ends.wired.lane.trace k stdio) (said y.ends.told k)

-- and it is all of that, as over messages
abbrev pub AllBytesAreLogged : Type 0
AllBytesAreLogged =
    (id capacity : ℕ) (resumable : Bool) (ss : List Step) (y : OverBytes) (k : ℕ)
    → GoesOver (bytes_apart id capacity resumable) ss y
    → y.ends.heard ≡ true → was_started y.ends.wired.lane.trace k ≡ true
    → unanswered_requests y.ends.wired.core ≡ []
    → y.ends.wired.shown ≡ length y.ends.wired.lane.put
    → log (visible y.ends.wired.lane.trace y.ends.wired.shown) k stdio ≡ said y.ends.told k

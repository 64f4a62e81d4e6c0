-- What follows for a worker's commands, whatever comes.
use Rattle.std.specs.Prelude.{◌≡◌, ⊤, ◌==◌, ◌≤◌, ◌<◌, max, Option, Some, None, ◌+◌, ℕ, Bool, true, false, ◌&&◌, if◌then◌else◌, List, [], ◌∷◌, length}
use Rattle.bm_outbox.specs.declared.stopping.StopCause.{StopCause}
use Rattle.bm_outbox.specs.declared.stopping.Sweep.TheVariants as sweep
use Rattle.bm_outbox.specs.declared.command_end.CommandEnd.{CommandEnd}
use Rattle.bm_outbox.specs.declared.command_end.CommandEnd.TheVariants as command_end
use Rattle.bm_commands.specs.declared.values.Input.{Input}
use Rattle.bm_commands.specs.declared.values.Input.TheVariants as input
use Rattle.bm_commands.specs.declared.values.Effect.{Effect}
use Rattle.bm_commands.specs.declared.values.Effect.TheVariants as effect
use Rattle.bm_commands.specs.declared.values.CommandRow.{CommandRow}
use Rattle.bm_commands.specs.declared.values.ProcessLook.{ProcessLook}
use Rattle.bm_commands.specs.declared.values.CommandPhase.{CommandPhase}
use Rattle.bm_commands.specs.declared.values.CommandPhase.TheVariants as phase
use Rattle.bm_commands.specs.Rows.{has_text, looked, swept}
use Rattle.bm_commands.specs.Queues.{QueuesView, admitted, fresh_queues, stepped, wake}

-- a command is taken in at a time, or an input comes at one
pub data Event : Type 0 where
  admits : ℕ → ℕ → Event
  steps : ℕ → Input → Event

abbrev pub moved : QueuesView → Event → QueuesView × Effect
moved q (admits command now) = (admitted command now q, effect.Nothing)
moved q (steps now i) = stepped q now i

-- the machine after these events, and what it told to do, an effect an event
abbrev pub after : QueuesView → List Event → QueuesView
after q [] = q
after q (e ∷ es) = after (moved q e).0 es

abbrev pub effects : QueuesView → List Event → List Effect
effects q [] = []
effects q (e ∷ es) = (moved q e).1 ∷ effects (moved q e).0 es

abbrev pub total : (Effect → ℕ) → List Effect → ℕ
total f [] = 0
total f (e ∷ es) = f e + total f es

abbrev pub one_if : Bool → ℕ
one_if b = if b then 1 else 0

-- how many ends, texts and exit codes of a process's command an effect tells
abbrev pub ends_in : ℕ → Effect → ℕ
ends_in p (effect.TellEnd process k end) = one_if (process == p)
ends_in p e = 0

abbrev pub texts_in : ℕ → Effect → ℕ
texts_in p (effect.TellText process k) = one_if (process == p)
texts_in p e = 0

abbrev pub gives_code : CommandEnd → Bool
gives_code (command_end.Code code) = true
gives_code (command_end.Held code) = true
gives_code (command_end.Stopped why left) = false

abbrev pub codes_in : ℕ → Effect → ℕ
codes_in p (effect.TellEnd process k end) = one_if ((process == p) && gives_code end)
codes_in p e = 0

abbrev pub told_in : ℕ → Effect → ℕ
told_in p e = ends_in p e + texts_in p e

-- a command's end is told at most once, and no text behind it
abbrev pub EndsOnce : Type 0
EndsOnce = (es : List Event) (p : ℕ) → total (ends_in p) (effects fresh_queues es) ≤ 1

abbrev pub SilentBehindEnd : Type 0
SilentBehindEnd =
    (es more : List Event) (p : ℕ) → 1 ≤ total (ends_in p) (effects fresh_queues es)
    → total (texts_in p) (effects (after fresh_queues es) more) ≡ 0

-- once an interrupt has killed a process, no exit code is told of its command
abbrev pub InterruptedGiveNoCode : Type 0
InterruptedGiveNoCode =
    (es more : List Event) (k now p : ℕ)
    → (stepped (after fresh_queues es) now (input.Interrupt k)).1 ≡ effect.Kill p
    → total (codes_in p) (effects (stepped (after fresh_queues es) now (input.Interrupt k)).0 more) ≡ 0

-- once a session is lost, nothing is told of the commands that were started before
abbrev pub LostAreSilent : Type 0
LostAreSilent =
    (es more : List Event) (now p : ℕ) → p ≤ (after fresh_queues es).started
    → total (told_in p) (effects (stepped (after fresh_queues es) now input.SessionLost).0 more) ≡ 0

-- how many commands stand before that of a process, and whether that has a text to be told
abbrev pub place : ℕ → List CommandRow → ℕ
place p [] = 0
place p (r ∷ rs) = if r.process == p then 0 else 1 + place p rs

abbrev pub waits : ℕ → List CommandRow → Bool
waits p [] = false
waits p (r ∷ rs) = if r.process == p then has_text r else waits p rs

-- over these events it has a text to be told, and none of its texts is
abbrev pub WaitsOn : ℕ → QueuesView → List Event → Type 0
WaitsOn p q [] = ⊤
WaitsOn p q (e ∷ es) = (waits p q.rows ≡ true) × (texts_in p (moved q e).1 ≡ 0) × WaitsOn p (moved q e).0 es

abbrev pub any_text : Effect → ℕ
any_text (effect.TellText process k) = 1
any_text e = 0

-- while a command waits to be told of, at most as many texts of others are told as stand before it
abbrev pub TurnsAreFair : Type 0
TurnsAreFair =
    (q : QueuesView) (es : List Event) (p : ℕ) → WaitsOn p q es
    → total any_text (effects q es) ≤ place p q.rows

-- this time comes before the wake, if there is one
abbrev pub IsBefore : ℕ → Option ℕ → Type 0
IsBefore now (Some at) = now < at
IsBefore now None = ⊤

-- a tick before the wake does nothing
abbrev pub SleepsUntilWake : Type 0
SleepsUntilWake =
    (q : QueuesView) (now : ℕ) → IsBefore (max q.now_ms now) (wake q.rows)
    → ((stepped q now input.Tick).1 ≡ effect.Nothing) × ((stepped q now input.Tick).0.rows ≡ q.rows)

-- a row after these looks, each at its time
abbrev pub looked_on : List (ℕ × ProcessLook) → CommandRow → CommandRow
looked_on [] r = r
looked_on (l ∷ ls) r = looked_on ls (looked l.0 l.1 r)

-- none of these looks showed an end of the sweep
abbrev pub SweepGoesOn : List (ℕ × ProcessLook) → Type 0
SweepGoesOn [] = ⊤
SweepGoesOn (l ∷ ls) = (swept l.1 ≡ sweep.Going) × SweepGoesOn ls

abbrev pub phase_is_stopping : CommandPhase → Bool
phase_is_stopping (phase.Stopping why ms) = true
phase_is_stopping p = false

-- Fewer than 250 looks, however late each of them comes, end no command whose sweep goes on. So a
-- machine that stands still has a worker give up on no sweep.
abbrev pub StandstillsEndNothing : Type 0
StandstillsEndNothing =
    (why : StopCause) (r : CommandRow) (ls : List (ℕ × ProcessLook)) → r.phase ≡ phase.Stopping why 0
    → SweepGoesOn ls → length ls < 250 → phase_is_stopping (looked_on ls r).phase ≡ true

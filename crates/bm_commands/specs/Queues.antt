-- What an input does to all commands of a worker.
use Rattle.std.specs.Prelude.{ℕ, ◌+◌, ◌-◌, max, min, Bool, true, false, ◌||◌, if◌then◌else◌, List, [], ◌∷◌, ◌++◌, fold, map, position, remove, slice_get, slice_set, Option, Some, None, ⊤}
use Rattle.bm_outbox.specs.Stopping.{IsOwnEnd}
use Rattle.bm_commands.specs.declared.values.ProcessInput.{ProcessInput}
use Rattle.bm_commands.specs.declared.values.ProcessInput.TheVariants as told
use Rattle.bm_commands.specs.declared.values.Input.{Input}
use Rattle.bm_commands.specs.declared.values.Input.TheVariants as input
use Rattle.bm_commands.specs.declared.values.Effect.{Effect}
use Rattle.bm_commands.specs.declared.values.Effect.TheVariants as effect
use Rattle.bm_commands.specs.declared.values.CommandRow.{CommandRow}
use Rattle.bm_commands.specs.Rows.{cell, end_effect, fresh_row, has_end, has_text, is_command, is_due, is_gone, is_lost, is_other, is_process, killed, lost, row_wake}

-- the commands in the order of their turns, and how many processes were started. The latest time
-- that was handed in, and whether the worker ends.
pub record QueuesView : Type 0 where
  pub rows : List CommandRow
  pub started : ℕ
  pub now_ms : ℕ
  pub is_ending : Bool

abbrev pub fresh_queues : QueuesView
fresh_queues = record { rows = []; started = 0; now_ms = 0; is_ending = false }

-- the rows, and what is to be done
abbrev pub Acted : Type 0
Acted = List CommandRow × Effect

-- the row at this place is changed
abbrev pub changed_to : ℕ → ProcessInput → List CommandRow → ℕ → Option CommandRow → Acted
changed_to now i rows at (Some r) = (slice_set rows at (cell now r i).0, (cell now r i).1)
changed_to now i rows at None = (rows, effect.Nothing)

abbrev pub changed : ℕ → ProcessInput → List CommandRow → Option ℕ → Acted
changed now i rows (Some at) = changed_to now i rows at (slice_get rows at)
changed now i rows None = (rows, effect.Nothing)

-- a lost one is killed
abbrev pub killed_to : ℕ → List CommandRow → ℕ → Option CommandRow → Acted
killed_to now rows at (Some r) = (slice_set rows at (killed now r), effect.Kill r.process)
killed_to now rows at None = (rows, effect.Nothing)

abbrev pub killed_at : ℕ → List CommandRow → ℕ → Acted
killed_at now rows at = killed_to now rows at (slice_get rows at)

-- one of which nothing is left goes
abbrev pub forgotten_to : List CommandRow → ℕ → Option CommandRow → Acted
forgotten_to rows at (Some r) = (remove rows at, effect.Forget r.process)
forgotten_to rows at None = (rows, effect.Nothing)

abbrev pub forgotten_at : List CommandRow → ℕ → Acted
forgotten_at rows at = forgotten_to rows at (slice_get rows at)

abbrev pub look_to : Option CommandRow → Effect
look_to (Some r) = effect.Look r.process
look_to None = effect.Nothing

abbrev pub look_at : List CommandRow → ℕ → Effect
look_at rows at = look_to (slice_get rows at)

-- at a time a lost one is killed, or one that is gone goes, or one is looked at whose time has come
abbrev pub looks : List CommandRow → Option ℕ → Acted
looks rows (Some at) = (rows, look_at rows at)
looks rows None = (rows, effect.Nothing)

abbrev pub forgets_or : Option ℕ → ℕ → List CommandRow → Acted
forgets_or (Some at) now rows = forgotten_at rows at
forgets_or None now rows = looks rows (position (is_due now) rows)

abbrev pub kills_or : Option ℕ → ℕ → List CommandRow → Acted
kills_or (Some at) now rows = killed_at now rows at
kills_or None now rows = forgets_or (position is_gone rows) now rows

abbrev pub ticked : ℕ → List CommandRow → Acted
ticked now rows = kills_or (position is_lost rows) now rows

-- an end is told, and its row goes
abbrev pub told_end_to : List CommandRow → ℕ → Option CommandRow → Acted
told_end_to rows at (Some r) = (remove rows at, end_effect r)
told_end_to rows at None = (rows, effect.Nothing)

abbrev pub told_end_at : List CommandRow → ℕ → Acted
told_end_at rows at = told_end_to rows at (slice_get rows at)

-- the master is told of no other command
abbrev pub is_none : {A : Type 0} → Option A → Bool
is_none (Some a) = false
is_none None = true

abbrev pub is_alone : ℕ → List CommandRow → Bool
is_alone process rows = is_none (position (is_other process) rows)

-- a text is told where texts may be told, or of no other command is told; its command goes behind
-- all others
abbrev pub told_text_to : Bool → List CommandRow → ℕ → Option CommandRow → Acted
told_text_to may_say rows at (Some r) =
    if may_say || is_alone r.process rows
    then (remove rows at ++ record r { texts = r.texts - 1 } ∷ [], effect.TellText r.process r.pipes.command)
    else (rows, effect.Nothing)
told_text_to may_say rows at None = (rows, effect.Nothing)

abbrev pub told_text_at : Bool → List CommandRow → ℕ → Acted
told_text_at may_say rows at = told_text_to may_say rows at (slice_get rows at)

abbrev pub texts_or : Option ℕ → Bool → List CommandRow → Acted
texts_or (Some at) may_say rows = told_text_at may_say rows at
texts_or None may_say rows = (rows, effect.Nothing)

abbrev pub ends_or : Option ℕ → Bool → List CommandRow → Acted
ends_or (Some at) may_say rows = told_end_at rows at
ends_or None may_say rows = texts_or (position has_text rows) may_say rows

-- ends first, and then the texts in turn
abbrev pub turned : Bool → List CommandRow → Acted
turned may_say rows = ends_or (position has_end rows) may_say rows

-- the worker ends: all that it started is killed, once
abbrev pub ended : QueuesView → QueuesView × Effect
ended q = (
  record q { rows = []; is_ending = true },
  if q.is_ending then effect.Nothing else effect.SweepAll,
)

-- at this time; one before that which was handed in is taken for that
abbrev pub at_time : ℕ → QueuesView → QueuesView
at_time now q = record q { now_ms = max q.now_ms now }

abbrev pub acted : QueuesView → Acted → QueuesView × Effect
acted q a = (record q { rows = a.0 }, a.1)

abbrev pub answered : QueuesView → Input → QueuesView × Effect
answered q (input.Process process i) = acted q (changed q.now_ms i q.rows (position (is_process process) q.rows))
answered q (input.Interrupt command) =
    acted q (changed q.now_ms told.Interrupted q.rows (position (is_command command) q.rows))
answered q input.SessionLost = acted q (map lost q.rows, effect.Nothing)
answered q input.Ends = ended q
answered q input.Tick = acted q (ticked q.now_ms q.rows)
answered q (input.Turn may_say) = acted q (turned may_say q.rows)

-- one step of the machine: its state after the input, and what is to be done
abbrev pub stepped : QueuesView → ℕ → Input → QueuesView × Effect
stepped q now i = answered (at_time now q) i

-- a command is taken in, under the number of the process that is started next
abbrev pub admitted : ℕ → ℕ → QueuesView → QueuesView
admitted command now q = record {
  rows = q.rows ++ fresh_row (q.started + 1) command (max q.now_ms now) ∷ [];
  started = q.started + 1;
  now_ms = max q.now_ms now;
  is_ending = q.is_ending;
}

-- the sooner of two times
abbrev pub sooner : Option ℕ → Option ℕ → Option ℕ
sooner None other = other
sooner (Some a) None = Some a
sooner (Some a) (Some b) = Some (min a b)

-- by when a tick is wanted at the latest
abbrev pub wake : List CommandRow → Option ℕ
wake rows = fold (λ w r. sooner w (row_wake r)) None rows

-- an exit code is told of the command whose pipes gave it
abbrev pub IsOwn : Effect → Type 0
IsOwn (effect.TellEnd process k end) = IsOwnEnd k end
IsOwn e = ⊤

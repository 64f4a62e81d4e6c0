-- What an input does to the row of one command.
use Rattle.std.specs.Prelude.{ℕ, ◌+◌, ◌-◌, ◌*◌, ◌^◌, ◌==◌, min, nat_lt, nat_le, Bool, true, false, not, ◌&&◌, if◌then◌else◌, ℤ, Option, Some, None}
use Rattle.bm_outbox.specs.Pipes.{after_wait, are_held, are_over, exit_code, held_ms, with_end}
use Rattle.bm_outbox.specs.Stopping.{stop_end, stopped_ms}
use Rattle.bm_outbox.specs.declared.command_end.CommandEnd.{CommandEnd}
use Rattle.bm_outbox.specs.declared.command_end.CommandEnd.TheVariants as command_end
use Rattle.bm_outbox.specs.declared.pipe_texts.PipeEnd.{PipeEnd}
use Rattle.bm_outbox.specs.declared.pipes.ExitCode.{ExitCode}
use Rattle.bm_outbox.specs.declared.pipes.Pipes.{Pipes}
use Rattle.bm_outbox.specs.declared.stopping.Leftover.{Leftover}
use Rattle.bm_outbox.specs.declared.stopping.StopCause.{StopCause}
use Rattle.bm_outbox.specs.declared.stopping.StopCause.TheVariants as cause
use Rattle.bm_outbox.specs.declared.stopping.Sweep.{Sweep}
use Rattle.bm_outbox.specs.declared.stopping.Sweep.TheVariants as sweep
use Rattle.bm_commands.specs.declared.values.ChildState.{ChildState}
use Rattle.bm_commands.specs.declared.values.ChildState.TheVariants as child
use Rattle.bm_commands.specs.declared.values.ProcessLook.{ProcessLook}
use Rattle.bm_commands.specs.declared.values.ProcessInput.{ProcessInput}
use Rattle.bm_commands.specs.declared.values.ProcessInput.TheVariants as input
use Rattle.bm_commands.specs.declared.values.Effect.{Effect}
use Rattle.bm_commands.specs.declared.values.Effect.TheVariants as effect
use Rattle.bm_commands.specs.declared.values.CommandPhase.{CommandPhase}
use Rattle.bm_commands.specs.declared.values.CommandPhase.TheVariants as phase
use Rattle.bm_commands.specs.declared.values.CommandRow.{CommandRow}

-- a command whose process starts now: its pipes are open, and it is glanced at in a second
abbrev pub fresh_row : ℕ → ℕ → ℕ → CommandRow
fresh_row process command now = record {
  process = process;
  pipes = record { command = command; output = true; errors = true };
  texts = 0;
  has_heard = false;
  held_ms = None;
  looked_ms = now;
  pause_ms = 1000;
  phase = phase.Runs;
}

-- what the master is told of
abbrev pub phase_is_told : CommandPhase → Bool
phase_is_told phase.Runs = true
phase_is_told (phase.Over end) = true
phase_is_told (phase.Stopping why ms) = true
phase_is_told phase.Lost = false
phase_is_told phase.Owed = false
phase_is_told phase.Gone = false

abbrev pub is_told : CommandRow → Bool
is_told r = phase_is_told r.phase

abbrev pub is_process : ℕ → CommandRow → Bool
is_process process r = r.process == process

abbrev pub is_command : ℕ → CommandRow → Bool
is_command command r = is_told r && (r.pipes.command == command)

abbrev pub is_other : ℕ → CommandRow → Bool
is_other process r = is_told r && not (r.process == process)

abbrev pub phase_is_over : CommandPhase → Bool
phase_is_over (phase.Over end) = true
phase_is_over p = false

-- its end is to be told: it is known, and all its texts were told
abbrev pub has_end : CommandRow → Bool
has_end r = phase_is_over r.phase && (r.texts == 0)

abbrev pub has_text : CommandRow → Bool
has_text r = is_told r && nat_lt 0 r.texts

abbrev pub phase_is_lost : CommandPhase → Bool
phase_is_lost phase.Lost = true
phase_is_lost p = false

abbrev pub is_lost : CommandRow → Bool
is_lost r = phase_is_lost r.phase

abbrev pub phase_is_gone : CommandPhase → Bool
phase_is_gone phase.Gone = true
phase_is_gone p = false

abbrev pub is_gone : CommandRow → Bool
is_gone r = phase_is_gone r.phase

-- what is looked at
abbrev pub phase_is_watched : CommandPhase → Bool
phase_is_watched phase.Runs = true
phase_is_watched (phase.Stopping why ms) = true
phase_is_watched phase.Owed = true
phase_is_watched p = false

abbrev pub is_due : ℕ → CommandRow → Bool
is_due now r = phase_is_watched r.phase && nat_le (min (r.looked_ms + r.pause_ms) (2 ^ 64 - 1)) now

-- a lost session's command is killed, and nobody is told of it
abbrev pub lost : CommandRow → CommandRow
lost r = if is_told r then record r { phase = phase.Lost } else r

abbrev pub killed : ℕ → CommandRow → CommandRow
killed now r = record r { looked_ms = now; pause_ms = 1; phase = phase.Owed }

-- what its pipes give is told until both have ended, or the command's end is known
abbrev pub is_heard : CommandPhase → Pipes → Bool
is_heard phase.Runs p = not (are_over p)
is_heard (phase.Stopping why ms) p = not (are_over p)
is_heard other p = false

abbrev pub with_text : CommandRow → CommandRow × Effect
with_text r =
    if is_heard r.phase r.pipes
    then (record r { texts = min (r.texts + 1) (2 ^ 64 - 1); has_heard = true }, effect.Keep)
    else (r, effect.Nothing)

-- its process is looked at at once where that was its last pipe
abbrev pub with_pipe_end : PipeEnd → CommandRow → CommandRow
with_pipe_end end r =
    if is_heard r.phase r.pipes
    then record r {
      pipes = with_end end r.pipes;
      pause_ms = if are_over (with_end end r.pipes) then 0 else r.pause_ms;
    }
    else r

-- its worker ends it from now on
abbrev pub stop : StopCause → ℕ → CommandRow → CommandRow × Effect
stop why now r =
    (record r { looked_ms = now; pause_ms = 0; phase = phase.Stopping why 0 }, effect.Kill r.process)

-- an interrupt ends a command that ends by itself, and no other
abbrev pub interrupted_in : CommandPhase → ℕ → CommandRow → CommandRow × Effect
interrupted_in phase.Runs now r = stop cause.Interrupted now r
interrupted_in (phase.Over (command_end.Code code)) now r = stop cause.Interrupted now r
interrupted_in (phase.Over (command_end.Held code)) now r = stop cause.Interrupted now r
interrupted_in p now r = (r, effect.Nothing)

abbrev pub interrupted : ℕ → CommandRow → CommandRow × Effect
interrupted now r = interrupted_in r.phase now r

abbrev pub without_memory_in : CommandPhase → ℕ → CommandRow → CommandRow × Effect
without_memory_in phase.Runs now r = if are_over r.pipes then (r, effect.Nothing) else stop cause.NoMemory now r
without_memory_in p now r = (r, effect.Nothing)

abbrev pub without_memory : ℕ → CommandRow → CommandRow × Effect
without_memory now r = without_memory_in r.phase now r

-- the next pause: 1, 2, .. 64 milliseconds, or 4 at the most while a command is being ended
abbrev pub after_look : Bool → ℕ → ℕ
after_look true n = if n == 0 then 1 else (if nat_lt n 4 then 2 * n else 4)
after_look false n = if n == 0 then 1 else (if nat_lt n 64 then 2 * n else 64)

abbrev pub paused : Bool → ℕ → CommandRow → CommandRow
paused is_stopping now r = record r { looked_ms = now; pause_ms = after_look is_stopping r.pause_ms }

abbrev pub is_blocked : CommandRow → Bool
is_blocked r = nat_lt 0 r.texts && not r.has_heard

-- for how long its pipes were held open since its process was first seen to have ended
abbrev pub held_with : Option ℕ → ℕ → CommandRow → ℕ
held_with (Some before) now r = held_ms before (now - r.looked_ms) (is_blocked r)
held_with None now r = 0

abbrev pub held_after : ℕ → CommandRow → ℕ
held_after now r = held_with r.held_ms now r

abbrev pub coded : Pipes → Option ℤ → ExitCode
coded p code = record { command = p.command; code = exit_code code }

-- its process has ended, and a pipe is open: it is over once that was so for a minute
abbrev pub glanced : ℕ → Option ℤ → CommandRow → CommandRow
glanced now code r = record r {
  pipes = after_wait (held_after now r) r.pipes;
  has_heard = false;
  held_ms = Some (held_after now r);
  looked_ms = now;
  pause_ms = 1000;
  phase =
      if are_held (held_after now r) r.pipes
      then phase.Over (command_end.Held (coded r.pipes code))
      else phase.Runs;
}

-- a command that runs is over once both pipes were read and its process has ended
abbrev pub running_looked : ℕ → ChildState → CommandRow → CommandRow
running_looked now child.Runs r =
    if are_over r.pipes then paused false now r else record r { looked_ms = now; pause_ms = 1000 }
running_looked now (child.Ended code) r =
    if are_over r.pipes
    then record r { phase = phase.Over (command_end.Code (coded r.pipes code)) }
    else glanced now code r

-- the sweep counts once the command's own process has ended, or is known to be left
abbrev pub swept_with : Sweep → ChildState → Sweep
swept_with sweep.Left c = sweep.Left
swept_with s (child.Ended code) = s
swept_with s child.Runs = sweep.Going

abbrev pub swept : ProcessLook → Sweep
swept seen = swept_with seen.sweep seen.child

-- a command that is being ended is over as `stop_end` says, and what its pipes gave and isn't told
-- never is
abbrev pub stop_looked_to : Option Leftover → StopCause → ℕ → ℕ → CommandRow → CommandRow
stop_looked_to (Some left) why ms now r =
    record r { texts = 0; phase = phase.Over (command_end.Stopped why left) }
stop_looked_to None why ms now r = record (paused true now r) { phase = phase.Stopping why ms }

-- by how many milliseconds have counted with this look
abbrev pub stop_looked_at : StopCause → ℕ → ℕ → ProcessLook → CommandRow → CommandRow
stop_looked_at why ms now seen r =
    stop_looked_to (stop_end (swept seen) ms ((r.texts == 0) && are_over r.pipes)) why ms now r

abbrev pub stop_looked : StopCause → ℕ → ℕ → ProcessLook → CommandRow → CommandRow
stop_looked why before now seen r = stop_looked_at why (stopped_ms before (now - r.looked_ms)) now seen r

-- one of which nobody is told is done with once its process and its sweep have ended
abbrev pub owed_looked_to : ChildState → Sweep → ℕ → CommandRow → CommandRow
owed_looked_to child.Runs s now r = paused false now r
owed_looked_to (child.Ended code) sweep.Going now r = paused false now r
owed_looked_to (child.Ended code) s now r = record r { phase = phase.Gone }

abbrev pub owed_looked : ℕ → ProcessLook → CommandRow → CommandRow
owed_looked now seen r = owed_looked_to seen.child seen.sweep now r

abbrev pub looked_in : CommandPhase → ℕ → ProcessLook → CommandRow → CommandRow
looked_in phase.Runs now seen r = running_looked now seen.child r
looked_in (phase.Stopping why before) now seen r = stop_looked why before now seen r
looked_in phase.Owed now seen r = owed_looked now seen r
looked_in p now seen r = r

abbrev pub looked : ℕ → ProcessLook → CommandRow → CommandRow
looked now seen r = looked_in r.phase now seen r

-- the table of one command: its row after an input, and what is to be done
abbrev pub cell : ℕ → CommandRow → ProcessInput → CommandRow × Effect
cell now r input.Text = with_text r
cell now r (input.PipeEnded end) = (with_pipe_end end r, effect.Nothing)
cell now r input.NoMemory = without_memory now r
cell now r input.Interrupted = interrupted now r
cell now r (input.Looked seen) = (looked now seen r, effect.Nothing)
cell now r input.NotStarted = (record r { phase = phase.Gone }, effect.Nothing)
cell now r input.Unread = (lost r, effect.Nothing)

-- the command that is told of: that whose pipes gave the exit code
abbrev pub giver : ℕ → CommandEnd → ℕ
giver k (command_end.Code code) = code.command
giver k (command_end.Held code) = code.command
giver k (command_end.Stopped why left) = k

abbrev pub end_effect_in : CommandPhase → CommandRow → Effect
end_effect_in (phase.Over end) r = effect.TellEnd r.process (giver r.pipes.command end) end
end_effect_in p r = effect.Nothing

abbrev pub end_effect : CommandRow → Effect
end_effect r = end_effect_in r.phase r

-- when it is to be looked at, killed or dropped
abbrev pub wake_in : CommandPhase → CommandRow → Option ℕ
wake_in (phase.Over end) r = None
wake_in phase.Lost r = Some 0
wake_in phase.Gone r = Some 0
wake_in p r = Some (min (r.looked_ms + r.pause_ms) (2 ^ 64 - 1))

abbrev pub row_wake : CommandRow → Option ℕ
row_wake r = wake_in r.phase r

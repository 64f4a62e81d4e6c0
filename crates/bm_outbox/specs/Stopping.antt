-- How a command is told of that its worker ends.
use Rattle.std.specs.Prelude.{◌≡◌, ℕ, ◌+◌, ◌-◌, ◌^◌, min, ℤ, pos, Bool, not, ◌&&◌, nat_lt, List, [], ◌∷◌, ◌++◌, codes, map, All, Option, Some, None, ⊤, if◌then◌else◌}
use Rattle.std.specs.Ordering.{int_eq}
use Rattle.bm_lines.specs.declared.letter.Letter.TheVariants.{H}
use Rattle.bm_outbox.specs.Opening.{Closes, waiting_texts}
use Rattle.bm_outbox.specs.declared.command_end.CommandEnd.{CommandEnd}
use Rattle.bm_outbox.specs.declared.command_end.CommandEnd.TheVariants as command_end
use Rattle.bm_outbox.specs.declared.ending.Ending.{Ending}
use Rattle.bm_outbox.specs.declared.ending.Ending.TheVariants as ending
use Rattle.bm_outbox.specs.declared.outbox_entry.OutboxEntry.{OutboxEntry}
use Rattle.bm_outbox.specs.declared.outbox_entry.OutboxEntry.TheVariants as entry
use Rattle.bm_outbox.specs.declared.pipes.ExitCode.{ExitCode}
use Rattle.bm_outbox.specs.declared.said.Said.{Said}
use Rattle.bm_outbox.specs.declared.stopping.Leftover.{Leftover}
use Rattle.bm_outbox.specs.declared.stopping.Leftover.TheVariants as leftover
use Rattle.bm_outbox.specs.declared.stopping.StopCause.{StopCause}
use Rattle.bm_outbox.specs.declared.stopping.StopCause.TheVariants as cause
use Rattle.bm_outbox.specs.declared.stopping.Sweep.{Sweep}
use Rattle.bm_outbox.specs.declared.stopping.Sweep.TheVariants as sweep

-- the line that says why it is ended
abbrev pub cause_line : StopCause → List ℕ
cause_line cause.Interrupted = codes "interrupted\n"
cause_line cause.NoMemory = codes "out of memory\n"

-- the lines that say what may go on
abbrev pub leftover_lines : Leftover → List (List ℕ)
leftover_lines leftover.Nothing = []
leftover_lines leftover.Process = codes "cannot end: a process is left\n" ∷ []
leftover_lines leftover.NoTools = codes "cannot end: no /bin/sh or grep\n" ∷ []
leftover_lines leftover.NoLook = codes "cannot end: no look at its processes\n" ∷ []

-- what the exit code of a sweep says
abbrev pub sweep_of : Option ℤ → Sweep
sweep_of (Some code) =
    if int_eq code (pos 0) then sweep.Clean else
    if int_eq code (pos 3) then sweep.NoTools else
    if int_eq code (pos 4) then sweep.Left else
    sweep.Failed
sweep_of None = sweep.Failed

-- For how many milliseconds a command has been ended, as they count at a look. At most 20 of those
-- that have passed since the last one do: a machine that stands still lets no sweep go on either.
abbrev pub stopped_ms : ℕ → ℕ → ℕ
stopped_ms before passed = min (before + min 20 passed) (2 ^ 64 - 1)

-- what is said of the processes, once the sweep came back or lasted for five seconds
abbrev pub end_after : Sweep → ℕ → Option Leftover
end_after sweep.Going ms = if nat_lt ms 5000 then None else Some leftover.NoLook
end_after sweep.Clean ms = Some leftover.Nothing
end_after sweep.Left ms = Some leftover.Process
end_after sweep.NoTools ms = Some leftover.NoTools
end_after sweep.Failed ms = Some leftover.NoLook

-- the end waits for what the pipes still give, for 200 milliseconds at the most, and for the sweep
abbrev pub stop_end : Sweep → ℕ → Bool → Option Leftover
stop_end sweep ms is_silent = if not is_silent && nat_lt ms 200 then None else end_after sweep ms

-- what a master is told of it
abbrev pub ending_of : StopCause → Ending
ending_of cause.Interrupted = ending.Interrupted
ending_of cause.NoMemory = ending.NoMemory

-- The last lines of such a command: what may go on of it, where anything may, and why it was ended.
abbrev pub stop_lines : StopCause → Leftover → List (List ℕ)
stop_lines why left = leftover_lines left ++ cause_line why ∷ []

-- headers that are these lines
abbrev pub AreHeaders : List (List ℕ) → List Said → Type 0
AreHeaders lines said = (map (λ s. s.text) said ≡ lines) × All (λ s. s.letter ≡ H) said

-- those lines wait behind all that was told, and the end behind them
abbrev pub Stops : ℕ → StopCause → Leftover → List OutboxEntry → List OutboxEntry → Type 0
Stops k why left old new = (said : List Said) × AreHeaders (stop_lines why left) said
    × (new ≡ old ++ waiting_texts k said ++ entry.End k (ending_of why) ∷ [])

-- the line that says that a pipe was held open, and is waited for no more
abbrev pub held_line : List ℕ
held_line = codes "pipe closed: held open for 60 seconds\n"

-- that line waits behind all that was told, and the end as of any other command behind it
abbrev pub ClosesHeld : ExitCode → List OutboxEntry → List OutboxEntry → Type 0
ClosesHeld code old new = (said : Said) × (said.letter ≡ H) × (said.text ≡ held_line)
    × Closes code (old ++ entry.Text code.command said ∷ []) new

-- an exit code is told of the command whose pipes gave it
abbrev pub IsOwnEnd : ℕ → CommandEnd → Type 0
IsOwnEnd k (command_end.Code code) = code.command ≡ k
IsOwnEnd k (command_end.Held code) = code.command ≡ k
IsOwnEnd k (command_end.Stopped why left) = ⊤

-- How a command ended is told behind all that was told of it.
abbrev pub Ends : ℕ → CommandEnd → List OutboxEntry → List OutboxEntry → Type 0
Ends k (command_end.Code code) old new = (code.command ≡ k) × Closes code old new
Ends k (command_end.Held code) old new = (code.command ≡ k) × ClosesHeld code old new
Ends k (command_end.Stopped why left) old new = Stops k why left old new

-- What is done with the processes of a worker's commands, as their machine says.
use Rattle.std.specs.Prelude.{◌≡◌, ℕ, Bool, List, [], ◌∷◌, ◌++◌, position, slice_get, slice_set, Option, Some, None, Result, Ok, IsSomeAnd, ⊤}
use Rattle.std.specs.Process.{child_status, exit_code}
use Rattle.std.specs.declared.alloc.AllocError.{AllocError}
use Rattle.std.specs.declared.process.status.ExitStatus.{ExitStatus}
use Rattle.bm_commands.specs.declared.values.ChildState.{ChildState}
use Rattle.bm_commands.specs.declared.values.ChildState.TheVariants as child
use Rattle.bm_commands.specs.declared.values.Effect.{Effect}
use Rattle.bm_commands.specs.declared.values.Effect.TheVariants as effect
use Rattle.bm_commands.specs.declared.values.Input.{Input}
use Rattle.bm_commands.specs.declared.values.Input.TheVariants as input
use Rattle.bm_commands.specs.declared.values.ProcessInput.{ProcessInput}
use Rattle.bm_commands.specs.declared.values.ProcessInput.TheVariants as told
use Rattle.bm_commands.specs.declared.values.ProcessLook.{ProcessLook}
use Rattle.bm_outbox.specs.declared.said.Said.{Said}
use Rattle.bm_outbox.specs.declared.start_fault.StartFault.{StartFault}
use Rattle.bm_outbox.specs.declared.stopping.Sweep.{Sweep}
use Rattle.bm_outbox.specs.declared.stopping.Sweep.TheVariants as sweep
use Rattle.bm_worker_threads.specs.Marks.{MarkTexts, mark_of}
use Rattle.bm_worker_threads.specs.Sweeps.{LooksFor, seen}
use Rattle.bm_worker_threads.specs.Turns.{is_of}
use Rattle.bm_worker_threads.specs.declared.mailbox.PipeEvent.{PipeEvent}
use Rattle.bm_worker_threads.specs.declared.mailbox.PipeEvent.TheVariants as event
use Rattle.bm_worker_threads.specs.declared.process_parts.ProcessParts.{ProcessParts}
use Rattle.bm_worker_threads.specs.declared.sweeping.Sweeper.{Sweeper}

-- what belongs to the process at this place is changed so, and nothing else has changed
abbrev pub ChangesAt : (ProcessParts → ProcessParts → Type 0) → Option ℕ → List ProcessParts → List ProcessParts → Type 0
ChangesAt Changes (Some at) old new =
    (part : ProcessParts) × (changed : ProcessParts) × (slice_get old at ≡ Some part)
    × Changes part changed × (new ≡ slice_set old at changed)
ChangesAt Changes None old new = new ≡ old

-- what belongs to this process is changed so, if anything does
abbrev pub ChangesOf : ℕ → (ProcessParts → ProcessParts → Type 0) → List ProcessParts → List ProcessParts → Type 0
ChangesOf process Changes old new = ChangesAt Changes (position (is_of process) old) old new

-- only its process was asked, and its sweep
abbrev pub KeepsRest : ProcessParts → ProcessParts → Type 0
KeepsRest old new = new ≡ record old { child = new.child; sweeper = new.sweeper }

-- it was killed: what carries its own mark is swept, and its texts stay
abbrev pub IsKilled : MarkTexts → ProcessParts → ProcessParts → Type 0
IsKilled marks old new =
    KeepsRest old new × IsSomeAnd new.sweeper (LooksFor (mark_of marks old.process ∷ []))

-- a text was kept behind those that were kept
abbrev pub AddsText : Said → ProcessParts → ProcessParts → Type 0
AddsText said old new =
    (new ≡ record old { texts = new.texts }) × (new.texts.items ≡ old.texts.items ++ said ∷ [])

-- an exit code that is told is that of the process, and one that runs has none
abbrev pub IsSeen : ChildState → Option ExitStatus → Type 0
IsSeen child.Runs status = status ≡ None
IsSeen (child.Ended (Some code)) status = IsSomeAnd status (λ s. exit_code s ≡ Some code)
IsSeen (child.Ended None) status = ⊤

-- a sweep that wasn't begun goes on
abbrev pub sweep_of : Option Sweeper → Sweep
sweep_of (Some s) = seen s
sweep_of None = sweep.Going

-- this is what a look shows of it
abbrev pub IsLooked : ProcessLook → ProcessParts → ProcessParts → Type 0
IsLooked look old new = KeepsRest old new × (look.sweep ≡ sweep_of new.sweeper)
    × IsSeen look.child (child_status new.child)

-- a process of which nothing is there has ended, and left nothing
abbrev pub LooksAt : Option ℕ → ProcessLook → List ProcessParts → List ProcessParts → Type 0
LooksAt (Some at) look old new = ChangesAt (IsLooked look) (Some at) old new
LooksAt None look old new =
    (new ≡ old) × (look ≡ record { child = child.Ended None; sweep = sweep.Clean })

-- what an effect does to what belongs to the processes, behind all but a tick and a turn
abbrev pub PutsBy : MarkTexts → Effect → List ProcessParts → List ProcessParts → Type 0
PutsBy marks (effect.Kill process) old new = ChangesOf process (IsKilled marks) old new
PutsBy marks effect.SweepAll old new = new ≡ []
PutsBy marks e old new = new ≡ old

-- a text is kept where the machine says so, at the end of those of its own process
abbrev pub KeepsText : ℕ → Said → Effect → List ProcessParts → List ProcessParts → Type 0
KeepsText process said effect.Keep old new = ChangesOf process (AddsText said) old new
KeepsText process said e old new = new ≡ old

abbrev pub text_input : ℕ → Input
text_input process = input.Process process told.Text

-- what the machine hears by what a pipe's thread tells
abbrev pub told_input : ℕ → PipeEvent → Input
told_input process (event.Text said) = text_input process
told_input process (event.End end) = input.Process process (told.PipeEnded end)
told_input process event.NoMemory = input.Process process told.NoMemory

-- and what is kept then
abbrev pub KeepsTold : MarkTexts → ℕ → PipeEvent → Effect → List ProcessParts → List ProcessParts → Type 0
KeepsTold marks process (event.Text said) e old new = KeepsText process said e old new
KeepsTold marks process (event.End end) e old new = PutsBy marks e old new
KeepsTold marks process event.NoMemory e old new = PutsBy marks e old new

-- the part of a process with this number, of which nothing was heard, is the last one
abbrev pub PushesPart : ℕ → List ProcessParts → List ProcessParts → Type 0
PushesPart process old new = (part : ProcessParts) × (part.process ≡ process)
    × (part.texts.items ≡ []) × (part.sweeper ≡ None) × (new ≡ old ++ part ∷ [])

-- only a process that was started has a part
abbrev pub PushesStarted : ℕ → Result (Result Bool StartFault) AllocError → List ProcessParts → List ProcessParts → Type 0
PushesStarted process (Ok (Ok given)) old new = PushesPart process old new
PushesStarted process r old new = new ≡ old

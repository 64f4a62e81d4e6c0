-- What follows for a worker as its master drives it, whatever comes.
use Rattle.std.specs.Prelude.{◌≡◌, ℕ, ◌+◌, ◌≤◌, Bool, true, false, if◌then◌else◌, List, [], ◌∷◌, count_by, Some, IfSome, is_some}
use Rattle.std.specs.List.{list_any}
use Rattle.bm_latent.specs.declared.deadline.EndAct.{EndAct}
use Rattle.bm_latent.specs.declared.deadline.EndAct.TheVariants as end_act
use Rattle.bm_latent.specs.declared.worker_event.WorkerEvent.{WorkerEvent}
use Rattle.bm_latent.specs.declared.worker_event.WorkerEvent.TheVariants as event
use Rattle.bm_latent.specs.declared.worker_event.ProcessAction.{ProcessAction}
use Rattle.bm_latent.specs.declared.worker_event.ProcessAction.TheVariants as process_act
use Rattle.bm_latent.specs.declared.worker_input.WorkerInput.{WorkerInput}
use Rattle.bm_latent.specs.declared.worker_input.WorkerInput.TheVariants.{Happened, Started, Ended, Tick, Over}
use Rattle.bm_latent.specs.declared.worker_input.WorkerEffect.{WorkerEffect}
use Rattle.bm_latent.specs.WorkerMachine.{MachineView, effect_of, machine_after}

-- the machine after these inputs, and what it told to do, an effect an input
abbrev pub after : MachineView → List WorkerInput → MachineView
after m [] = m
after m (i ∷ is) = after (machine_after m i) is

abbrev pub effects : MachineView → List WorkerInput → List WorkerEffect
effects m [] = []
effects m (i ∷ is) = effect_of m i ∷ effects (machine_after m i) is

-- what each machine keeps to, by the invariant of its type
abbrev pub IsSound : MachineView → Type 0
IsSound m =
    IfSome m.deadline (λ ticks. 200 ≤ ticks → m.asked ≡ true)
    × (m.starting ≡ true → m.running ≡ false)

abbrev pub one_if : Bool → ℕ
one_if b = if b then 1 else 0

-- a program begins, since it was to be started, or ends that ran; else such an input does nothing
abbrev pub begins : MachineView → WorkerInput → Bool
begins m Started = m.starting
begins m i = false

abbrev pub stops : MachineView → WorkerInput → Bool
stops m Ended = m.running
stops m i = false

-- over these inputs, how many programs begin, and how many end
abbrev pub all_begun : MachineView → List WorkerInput → ℕ
all_begun m [] = 0
all_begun m (i ∷ is) = one_if (begins m i) + all_begun (machine_after m i) is

abbrev pub all_stopped : MachineView → List WorkerInput → ℕ
all_stopped m [] = 0
all_stopped m (i ∷ is) = one_if (stops m i) + all_stopped (machine_after m i) is

-- The programs that begin, and the one that ran, are those that end, and the one that runs. So
-- between any two that begin one ends.
abbrev pub OneProgramRuns : Type 0
OneProgramRuns =
    (m : MachineView) (is : List WorkerInput) → IsSound m
    → all_begun m is + one_if m.running ≡ all_stopped m is + one_if (after m is).running

-- a start is told only while no program runs
abbrev pub StartsWhereNoneRuns : Type 0
StartsWhereNoneRuns =
    (m : MachineView) (is : List WorkerInput) (i : WorkerInput) → IsSound m
    → (effect_of (after m is) i).action.process ≡ process_act.Start
    → ((after m is).running ≡ false) × ((machine_after (after m is) i).running ≡ false)

-- a build was just said to wait, or a tick has passed by which one does
abbrev pub is_want : WorkerEvent → Bool
is_want event.Wanted = true
is_want e = false

abbrev pub wants_start : WorkerInput → Bool
wants_start (Happened e) = is_want e
wants_start (Tick wanted has_build) = wanted
wants_start i = false

-- the effect tells to start a program, to ask one to end, or to kill one
abbrev pub is_start_of : ProcessAction → Bool
is_start_of process_act.Start = true
is_start_of a = false

abbrev pub is_ask : EndAct → Bool
is_ask end_act.Ask = true
is_ask a = false

abbrev pub is_kill : EndAct → Bool
is_kill end_act.Kill = true
is_kill a = false

abbrev pub starts : WorkerEffect → Bool
starts e = is_start_of e.action.process

abbrev pub asks : WorkerEffect → Bool
asks e = is_ask e.ends

abbrev pub kills : WorkerEffect → Bool
kills e = is_kill e.ends

-- a program that wasn't asked to end isn't killed, whatever comes, until it is asked
abbrev pub NoneIsKilledUnasked : Type 0
NoneIsKilledUnasked =
    (m : MachineView) (is : List WorkerInput) → IsSound m → m.asked ≡ false
    → list_any asks (effects m is) ≡ false → list_any kills (effects m is) ≡ false

-- so it is of each program that begins, though one before it was asked
abbrev pub NewProgramsAreUnasked : Type 0
NewProgramsAreUnasked =
    (m : MachineView) (is : List WorkerInput) → begins m Started ≡ true
    → list_any asks (effects (machine_after m Started) is) ≡ false
    → list_any kills (effects (machine_after m Started) is) ≡ false

-- a start is told only where a build was just said to wait, or by a tick by which one does
abbrev pub NoneIsStartedUnwanted : Type 0
NoneIsStartedUnwanted =
    (m : MachineView) (i : WorkerInput) → starts (effect_of m i) ≡ true → wants_start i ≡ true

-- once the master ends, no start is told
abbrev pub EndedMastersStartNone : Type 0
EndedMastersStartNone =
    (m : MachineView) (is : List WorkerInput) → m.over ≡ true → list_any starts (effects m is) ≡ false

-- a tick has passed, or a program's end is told
abbrev pub is_tick : WorkerInput → Bool
is_tick (Tick wanted has_build) = true
is_tick i = false

abbrev pub is_end : WorkerInput → Bool
is_end Ended = true
is_end i = false

-- once the master ends, each program that runs is to end, whatever comes
abbrev pub ProgramsAreToEnd : Type 0
ProgramsAreToEnd =
    (m : MachineView) (is : List WorkerInput) → m.over ≡ false → (after m is).over ≡ true
    → (after m is).running ≡ true → is_some (after m is).deadline ≡ true

-- a program is to end for so many ticks, and doesn't over these inputs
abbrev pub RunsOn : MachineView → ℕ → List WorkerInput → Type 0
RunsOn m ticks is = (m.running ≡ true) × (m.deadline ≡ Some ticks) × (list_any is_end is ≡ false)

-- it is asked to end by the 200th tick, and killed by each from the thousandth on
abbrev pub AskedInTime : Type 0
AskedInTime =
    (m : MachineView) (ticks : ℕ) (is : List WorkerInput) (wanted has_build : Bool) → IsSound m
    → RunsOn m ticks is → ticks + count_by is_tick is ≡ 199
    → asks (effect_of (after m is) (Tick wanted has_build)) ≡ true

abbrev pub KilledInTime : Type 0
KilledInTime =
    (m : MachineView) (ticks : ℕ) (is : List WorkerInput) (wanted has_build : Bool) → IsSound m
    → RunsOn m ticks is → 999 ≤ ticks + count_by is_tick is
    → kills (effect_of (after m is) (Tick wanted has_build)) ≡ true

-- So a program that runs when the master ends was asked once 200 ticks have passed, unless it has
-- ended. From the thousandth on it is killed.
abbrev pub NoneIsForgotten : Type 0
NoneIsForgotten =
    (m : MachineView) (is : List WorkerInput) (wanted has_build : Bool) → IsSound m
    → m.running ≡ true → list_any is_end is ≡ false
    → (200 ≤ count_by is_tick is → (after (machine_after m Over) is).asked ≡ true)
    × (999 ≤ count_by is_tick is
    → kills (effect_of (after (machine_after m Over) is) (Tick wanted has_build)) ≡ true)

-- the worker has logged in, or has gone: it may be told anew
abbrev pub is_anew : WorkerEvent → Bool
is_anew event.Attached = true
is_anew event.Lost = true
is_anew e = false

abbrev pub comes_anew : WorkerInput → Bool
comes_anew (Happened e) = is_anew e
comes_anew i = false

-- the effect tells to send the worker a shutdown
abbrev pub is_shutdown : ProcessAction → Bool
is_shutdown process_act.Shutdown = true
is_shutdown a = false

abbrev pub shuts_down : WorkerEffect → Bool
shuts_down e = is_shutdown e.action.process

-- a worker is told to shut down at most once, and once more each time that it logs in or has gone
abbrev pub ToldOnceToShutDown : Type 0
ToldOnceToShutDown =
    (m : MachineView) (is : List WorkerInput)
    → count_by shuts_down (effects m is) ≤ 1 + count_by comes_anew is

-- one that was told so isn't told again when the master ends
abbrev pub DismissedAreNotTold : Type 0
DismissedAreNotTold =
    (m : MachineView) (is : List WorkerInput) → m.dismissed ≡ true → list_any comes_anew is ≡ false
    → shuts_down (effect_of (after m is) Over) ≡ false

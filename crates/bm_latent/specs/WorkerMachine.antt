-- A worker as its master drives it: where it stands after each input, and what is then to be done.
use Rattle.std.specs.Prelude.{ℕ, Bool, true, false, ◌&&◌, ◌||◌, not, if◌then◌else◌, Option, Some, None}
use Rattle.bm_latent.specs.declared.deadline.EndAct.{EndAct}
use Rattle.bm_latent.specs.declared.deadline.EndAct.TheVariants as end_act
use Rattle.bm_latent.specs.declared.worker_event.WorkerEvent.{WorkerEvent}
use Rattle.bm_latent.specs.declared.worker_event.WorkerEvent.TheVariants as event
use Rattle.bm_latent.specs.declared.worker_event.ProcessAction.{ProcessAction}
use Rattle.bm_latent.specs.declared.worker_event.ProcessAction.TheVariants as process_act
use Rattle.bm_latent.specs.declared.worker_event.WorkerAction.{WorkerAction}
use Rattle.bm_latent.specs.declared.worker_input.WorkerInput.{WorkerInput}
use Rattle.bm_latent.specs.declared.worker_input.WorkerInput.TheVariants.{Happened, Started, Refused, Ended, Tick, Over}
use Rattle.bm_latent.specs.declared.worker_input.WorkerEffect.{WorkerEffect}
use Rattle.bm_latent.specs.Deadline.{act_at, after_tick, begun}
use Rattle.bm_latent.specs.StartTries.{is_given_up, tries_after}
use Rattle.bm_latent.specs.WorkerState.{WorkerView, action_of, is_needless, is_occupied, is_ready, is_there, is_timed, is_to_stop, known_after}

-- What is known of the worker. Whether its program is to be started, and for how many ticks that
-- was tried. Whether a program runs, since how many ticks it is to end, and whether it was asked
-- to. Whether the worker was told to shut down, and whether the master ends.
pub record MachineView : Type 0 where
  pub known : WorkerView
  pub starting : Bool
  pub tries : ℕ
  pub running : Bool
  pub deadline : Option ℕ
  pub asked : Bool
  pub dismissed : Bool
  pub over : Bool

-- a worker of which this is known, and nothing was heard
abbrev pub fresh : WorkerView → MachineView
fresh known =
    record {
      known = known;
      starting = false;
      tries = 0;
      running = false;
      deadline = None;
      asked = false;
      dismissed = false;
      over = false;
    }

-- what happens to a program, and a tick, have inputs of their own
abbrev pub is_of_lane : WorkerEvent → Bool
is_of_lane event.Started = false
is_of_lane event.Failed = false
is_of_lane event.Stopped = false
is_of_lane (event.Tick has_build) = false
is_of_lane e = true

-- nothing is to be done
abbrev pub nothing : MachineView → WorkerAction
nothing m = record { ready = is_ready m.known; process = process_act.None; gives_up = false }

-- this alone is to be done
abbrev pub does : WorkerAction → WorkerEffect
does action = record { action = action; ends = end_act.None; fails = false }

-- a program that runs is to end from now on, or since before
abbrev pub ending : MachineView → MachineView
ending m = record m { deadline = if m.running then begun m.deadline else m.deadline }

-- no program is started while one runs or is being started
abbrev pub allowed : MachineView → ProcessAction → ProcessAction
allowed m process_act.Start = if m.running || m.starting then process_act.None else process_act.Start
allowed m act = act

-- where it stands once this is to be done
abbrev pub ordered : ProcessAction → MachineView → MachineView
ordered process_act.Start m = record m { starting = true; tries = 0 }
ordered process_act.Shutdown m = record m { dismissed = true }
ordered process_act.None m = m

-- The program of a worker that is to stop is to end. The worker may be lost, so that nothing can be
-- told to it.
abbrev pub outlived : MachineView → MachineView
outlived m = if is_to_stop m.known then ending m else m

-- A program is started at once only where a build was just said to wait for it. Else the next tick
-- starts it, where one waits by then, or gives its start up.
abbrev pub at_once : WorkerEvent → ProcessAction → ProcessAction
at_once event.Wanted act = act
at_once e process_act.Start = process_act.None
at_once e act = act

-- what follows for the program once the event was heard, what is to be done now, and where the
-- worker then stands
abbrev pub follows : MachineView → WorkerEvent → ProcessAction
follows m e = allowed m (action_of m.known e).process

abbrev pub answer : MachineView → WorkerEvent → WorkerAction
answer m e = record (action_of m.known e) { process = at_once e (follows m e) }

abbrev pub heard : MachineView → WorkerEvent → MachineView
heard m e = outlived (ordered (follows m e) (record m { known = known_after m.known e }))

-- one that logs in or has gone is dismissed no more
abbrev pub came : MachineView → WorkerEvent → MachineView
came m event.Attached = record m { dismissed = false }
came m event.Lost = record m { dismissed = false }
came m e = m

-- its program runs; where the master ends it is to end too
abbrev pub runs : MachineView → MachineView
runs m =
    record m {
      starting = false;
      running = true;
      asked = false;
      deadline = if m.over then Some 0 else None;
    }

-- its program isn't started any more: one that connected by hand goes on as one whose program ended
abbrev pub unstarted : MachineView → MachineView
unstarted m = record m { starting = false }

abbrev pub fault : MachineView → WorkerEvent
fault m = if is_ready m.known then event.Stopped else event.Failed

-- its program has ended
abbrev pub stopped : MachineView → MachineView
stopped m = record m { running = false; deadline = None }

-- builds that wait aren't given up where the master itself had the program ended
abbrev pub spared : Bool → WorkerAction → WorkerAction
spared asked action = record action { gives_up = action.gives_up && not asked }

-- the start is tried again at the next tick
abbrev pub is_tried_again : MachineView → Bool → Bool
is_tried_again m may_pass = may_pass && not (is_given_up m.tries false)

-- a program that no build waits for is to end
abbrev pub unneeded : MachineView → Bool → MachineView
unneeded m wanted = if is_needless m.known wanted then ending m else m

abbrev pub is_due : EndAct → Bool
is_due end_act.None = false
is_due act = true

-- a tick more for the program that is to end, and for the one that is to start
abbrev pub ticked : MachineView → MachineView
ticked m =
    record m {
      deadline = after_tick m.deadline;
      asked = m.asked || is_due (act_at (after_tick m.deadline));
      tries = if m.starting then tries_after m.tries else m.tries;
    }

abbrev pub after_ticking : MachineView → Bool → Bool → MachineView
after_ticking m wanted has_build =
    if m.over
    then m
    else (if m.starting
    then (if wanted then m else heard (unstarted m) (fault m))
    else heard m (event.Tick (is_occupied m.known wanted has_build)))

abbrev pub tick_action : MachineView → Bool → Bool → WorkerAction
tick_action m wanted has_build =
    if m.over
    then nothing m
    else (if m.starting
    then (if wanted
    then record { ready = is_ready m.known; process = process_act.Start; gives_up = false }
    else answer (unstarted m) (fault m))
    else answer m (event.Tick (is_occupied m.known wanted has_build)))

-- where the worker stands after an input
abbrev pub machine_after : MachineView → WorkerInput → MachineView
machine_after m (Happened e) =
    if not (is_of_lane e) then m else (if m.over then came m e else heard (came m e) e)
machine_after m Started = if m.starting then heard (runs m) event.Started else m
machine_after m (Refused may_pass) =
    if not m.starting || is_tried_again m may_pass then m else heard (unstarted m) (fault m)
machine_after m Ended =
    if not m.running then m else (if m.over then stopped m else heard (stopped m) event.Stopped)
machine_after m (Tick wanted has_build) = after_ticking (ticked (unneeded m wanted)) wanted has_build
machine_after m Over =
    record (ending m) { over = true; dismissed = m.dismissed || m.running && is_there m.known }

-- what is then to be done
abbrev pub effect_of : MachineView → WorkerInput → WorkerEffect
effect_of m (Happened e) = does (if m.over || not (is_of_lane e) then nothing m else answer (came m e) e)
effect_of m Started = does (if m.starting then answer (runs m) event.Started else nothing m)
effect_of m (Refused may_pass) =
    if not m.starting || is_tried_again m may_pass
    then does (nothing m)
    else record { action = answer (unstarted m) (fault m); ends = end_act.None; fails = true }
effect_of m Ended =
    does
    (if m.over || not m.running
    then nothing m
    else spared m.asked (answer (stopped m) event.Stopped))
effect_of m (Tick wanted has_build) =
    record {
      action = tick_action (ticked (unneeded m wanted)) wanted has_build;
      ends = act_at (after_tick (unneeded m wanted).deadline);
      fails = false;
    }
effect_of m Over =
    does
    (if m.running && not m.over && not m.dismissed && is_there m.known
    then record { ready = is_ready m.known; process = process_act.Shutdown; gives_up = false }
    else nothing m)

-- ticks count while a program runs or is to be started, and while a worker may idle
abbrev pub is_machine_timed : MachineView → Bool
is_machine_timed m = m.starting || (m.running || is_timed m.known)

-- What a master does at an input, and what each of its effects says.
use Rattle.std.specs.Prelude.{◌≡◌, ◌⊎◌, ◌<◌, ◌-◌, ◌||◌, ℕ, nat_lt, Bool, true, false, if◌then◌else◌, List, length, slice_get, slice_set, Option, Some, None, Ok, position, ⊤}
use Rattle.std.specs.List.{list_any}
use Rattle.std.specs.Option.{option_map}
use Rattle.bm_session.specs.declared.results.Results.{Results}
use Rattle.bm_board.specs.Board.{on_build, result_on, with_ready}
use Rattle.bm_board.specs.ScheduledBuild.{answer_of, cancel, waits_for}
use Rattle.bm_build_queue.specs.BuildQueue.{QueueState, after_cancel, with_board}
use Rattle.bm_build_queue.specs.Cancels.{met_by}
use Rattle.bm_build_queue.specs.declared.build_queue.Cancelled.{Cancelled}
use Rattle.bm_build_queue.specs.declared.build_queue.Cancelled.TheVariants as met
use Rattle.bm_latent.specs.declared.worker_event.WorkerEvent.{WorkerEvent}
use Rattle.bm_latent.specs.declared.worker_input.WorkerInput.{WorkerInput}
use Rattle.bm_latent.specs.declared.worker_input.WorkerInput.TheVariants as came
use Rattle.bm_latent.specs.WorkerMachine.{effect_of, machine_after}
use Rattle.bm_master.specs.declared.build_start.StartFate.TheVariants as fated
use Rattle.bm_master.specs.declared.known_worker.WorkerAct.{WorkerAct}
use Rattle.bm_master.specs.declared.known_worker.WorkerAct.TheVariants as act
use Rattle.bm_master.specs.declared.master.Agenda.{Agenda}
use Rattle.bm_master.specs.declared.master.Agenda.TheVariants as topic
use Rattle.bm_master.specs.declared.master_flow.FlowInput.TheVariants as flow_input
use Rattle.bm_master.specs.declared.master_flow.FlowStep.TheVariants as flow_step
use Rattle.bm_master.specs.declared.values.MasterRemark.{MasterRemark}
use Rattle.bm_master.specs.declared.values.MasterRemark.TheVariants as news
use Rattle.bm_master.specs.declared.values.MasterInput.{MasterInput}
use Rattle.bm_master.specs.declared.values.MasterInput.TheVariants as given
use Rattle.bm_master.specs.declared.values.FinishedBuild.{FinishedBuild}
use Rattle.bm_master.specs.declared.values.MasterEffect.{MasterEffect}
use Rattle.bm_master.specs.declared.values.MasterEffect.TheVariants as order
use Rattle.bm_master.specs.BuildStarts.{fate}
use Rattle.bm_master.specs.Builds.{BuildsView, IsNext, is_short, noted, opened}
use Rattle.bm_master.specs.Flow.{FlowView, begun_flow, flow_after, step_of}
use Rattle.bm_master.specs.Held.{IsNotedIn, is_free}
use Rattle.bm_master.specs.KnownWorkers.{KnownView, first_of, owed_with}

-- The builds, the workers and the flow of its work, and what it is about. What is told next, which
-- build is to be cancelled, and of which worker the lane is told that its program has ended.
-- Whether something may be owed to a worker. How many ticks are still to be told, and whether those
-- of the next wait count. Whether an event was taken that is handed in behind them. Whether all
-- programs are to end. Whether the builds that hold their slots are to be looked at. How many of
-- the events that lay ready behind such a look are still to be heard.
pub record MasterView : Type 0 where
  pub builds : BuildsView
  pub workers : List KnownView
  pub flow : FlowView
  pub agenda : Agenda
  pub tells : Option MasterRemark
  pub cancels : Option ℕ
  pub ended : Option ℕ
  pub owes : Bool
  pub ticks : ℕ
  pub timed : Bool
  pub hears : Bool
  pub over : Bool
  pub looks : Bool
  pub unheard : Option ℕ

-- nothing was started
abbrev pub begun_master : QueueState → List KnownView → MasterView
begun_master queue workers =
    record {
      builds = opened queue;
      workers = workers;
      flow = begun_flow;
      agenda = topic.Look;
      tells = None;
      cancels = None;
      ended = None;
      owes = false;
      ticks = 0;
      timed = false;
      hears = false;
      over = false;
      looks = false;
      unheard = None;
    }

-- This is the first that is to be done about the worker at this place.
abbrev pub IsFirst : MasterView → ℕ → WorkerAct → Type 0
IsFirst m at a = (w : KnownView) × (slice_get m.workers at ≡ Some w) × (first_of w.owed ≡ a)

-- The program of the worker at this place was started, and its end was not told.
abbrev pub Runs : MasterView → ℕ → Type 0
Runs m at = (w : KnownView) × (slice_get m.workers at ≡ Some w) × (w.machine.running ≡ true)

-- What is told although it was not noted before. A build has that result on the board, or is the
-- first that waits for that worker.
abbrev pub IsSo : MasterView → MasterRemark → Type 0
IsSo m (news.BuildEnded build result) = result_on m.builds.queue.board build ≡ Ok (Some result)
IsSo m (news.BuildWaits build worker) =
    position (waits_for worker) m.builds.queue.board.jobs ≡ Some build
IsSo m other = ⊥

-- One of the events is heard that lay ready at the count. No slot is given back.
abbrev pub IsHeard : MasterView → MasterView → Option ℕ → Type 0
IsHeard old new (Some left) = (0 < left) × (new ≡ record old { unheard = Some (left - 1) })
IsHeard old new None = ⊥

-- What each effect says of the master before it and behind it.
abbrev pub Follows : {Y : Type 0} → MasterView → MasterView → MasterEffect Y → Type 0
Follows old new order.Nothing = ⊤
Follows old new (order.StartBuild build) =
    IsNext old.builds new.builds build × (fate build.start build.cancelled ≡ fated.Try)
Follows old new (order.CancelBuild build) = old.cancels ≡ Some build
Follows old new (order.StartProgram at) = IsFirst old at act.Start
Follows old new (order.LookAtProgram at) = Runs old at
Follows old new (order.EndProgram at end) = IsFirst old at (act.End end)
Follows old new (order.ShutDown at) = IsFirst old at act.ShutDown
Follows old new (order.TellEnded at) = old.ended ≡ Some at
Follows old new (order.Tell told) = (old.tells ≡ Some told) ⊎ IsSo new told
Follows old new order.Report =
    (step_of old.flow ≡ flow_step.Report) × (new.flow ≡ record old.flow { reported = true })
Follows old new (order.Count timed) =
    (old.unheard ≡ None) × (list_any is_free new.builds.held.places ≡ true) × (new.timed ≡ timed)
Follows old new order.Listen = IsHeard old new old.unheard
Follows old new (order.Wait timed counted) = new.timed ≡ timed
Follows old new order.Hear =
    (old.agenda ≡ topic.Look) × (old.hears ≡ true) × (new ≡ record old { hears = false })
Follows old new order.Leave = (step_of old.flow ≡ flow_step.Leave) × (new.flow ≡ old.flow)

-- An input comes to the machine of the worker at this place. The board is told whether the worker
-- takes builds. What follows is to be done besides what was.
abbrev pub Hears : MasterView → MasterView → ℕ → WorkerInput → Type 0
Hears old new at input =
    (w : KnownView) → slice_get old.workers at ≡ Some w
    → (new.workers
    ≡ slice_set old.workers at
    (record w {
      machine = machine_after w.machine input;
      owed = owed_with w.owed (effect_of w.machine input);
    }))
    × (new.owes ≡ true)
    × (at < length old.builds.queue.board.workers
    → new.builds.queue.board
    ≡ with_ready old.builds.queue.board at (effect_of w.machine input).action.ready)

-- The build is cancelled on the board, and an unstarted one of its number notes that. One that runs
-- is to be cancelled. One that waited is told to have ended with its result.
abbrev pub builds_cancelled : ℕ → BuildsView → BuildsView
builds_cancelled build b =
    record b {
      queue = with_board b.queue (after_cancel b.queue.board build);
      unstarted = option_map (noted build) b.unstarted;
    }

abbrev pub CancelsBy : Cancelled → MasterView → MasterView → ℕ → Type 0
CancelsBy met.Running old new build = (new.cancels ≡ Some build) × (new.tells ≡ old.tells)
CancelsBy met.Waiting old new build =
    (new.cancels ≡ old.cancels)
    × ((r : Results) → result_on new.builds.queue.board build ≡ Ok (Some r)
    → new.tells ≡ Some (news.BuildEnded build r))
CancelsBy met.Nothing old new build = new.cancels ≡ old.cancels

pub record IsCancelled (old new : MasterView) (build : ℕ) : Type 0 where
  pub builds : new.builds ≡ builds_cancelled build old.builds
  pub by : CancelsBy
      (met_by (answer_of (on_build cancel old.builds.queue.board build))) old new build

-- What is noted to be told is so, or was noted before.
abbrev pub IsNoted : MasterView → MasterView → Type 0
IsNoted old new =
    (build : ℕ) (r : Results) → new.tells ≡ Some (news.BuildEnded build r)
    → (old.tells ≡ new.tells) ⊎ (result_on new.builds.queue.board build ≡ Ok (Some r))

-- A wait is over. Ticks count where they were waited for, and builds may be started that could not.
abbrev pub woken : ℕ → MasterView → MasterView
woken ticks m =
    if m.timed || m.over
    then record m {
      flow = if is_short m.builds then flow_after flow_input.Changed m.flow else m.flow;
      agenda = if nat_lt 0 ticks then topic.Program 0 else m.agenda;
      ticks = ticks;
      hears = true;
      looks = true;
    }
    else record m { hears = true }

-- The thread of a build has ended. Where it brings no result, the master has failed.
pub record IsEnded {Y : Type 0} (old new : MasterView) (build : FinishedBuild Y) : Type 0 where
  pub failed : build.result ≡ None → new.builds.failed ≡ true
  pub unstarted : new.builds.unstarted ≡ old.builds.unstarted
  pub rest :
      new
      ≡ record old {
        builds = new.builds;
        flow = flow_after flow_input.Changed old.flow;
        tells = new.tells;
        looks = true;
      }

-- Something has happened to the lane of the worker at this place. Builds may be started by that.
pub record HearsEvent (old new : MasterView) (at : ℕ) (event : WorkerEvent) : Type 0 where
  pub heard : Hears old new at (came.Happened event)
  pub flow : new.flow ≡ flow_after flow_input.Changed old.flow
  pub tells : new.tells ≡ old.tells

-- A build has started a command. It is noted, where there is memory for it.
pub record IsCommanded (old new : MasterView) (build command : ℕ) : Type 0 where
  pub queue : new.builds.queue ≡ old.builds.queue
  pub noted : IsNotedIn old.builds.held new.builds.held
      (record { build = build; command = command })
  pub rest : new ≡ record old { builds = new.builds }

-- the operator's input has ended
abbrev pub closed : MasterView → MasterView
closed m = record m { flow = flow_after flow_input.InputEnded m.flow }

-- What an input does.
abbrev pub Takes : {Y : Type 0} → MasterView → MasterView → MasterInput Y → Type 0
Takes old new (given.Woke ticks) = new ≡ woken ticks old
Takes old new (given.Ready events) = new ≡ record old { unheard = Some events }
Takes old new given.Quiet = new ≡ record old { unheard = Some 0 }
Takes old new (given.Worker at event) = HearsEvent old new at event
Takes old new (given.ProgramStarted at) =
    Hears old new at came.Started × (new.tells ≡ Some (news.ProgramStarted at))
Takes old new (given.ProgramRefused at failure) =
    Hears old new at (came.Refused failure.may_pass)
Takes old new (given.ProgramEnded at) =
    Hears old new at came.Ended × (new.tells ≡ Some (news.ProgramEnded at))
Takes old new (given.BuildStarted build worker) =
    new ≡ record old { tells = Some (news.BuildStarted build worker) }
Takes old new (given.BuildRefused build) =
    (new.agenda ≡ topic.Start 0) × (new.workers ≡ old.workers)
    × (new.builds
    ≡ record old.builds {
      unstarted = Some (record build { start = record build.start { told = true } });
    })
Takes old new (given.BuildEnded build) = IsEnded old new build
Takes old new (given.Commanded build command) = IsCommanded old new build command
Takes old new (given.Cancel build) = IsCancelled old new build
Takes old new given.InputEnded = new ≡ closed old
Takes old new given.Over = new ≡ record old { agenda = topic.End 0; over = true }

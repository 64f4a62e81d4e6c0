-- What the coordinator hands in to the machine of the master, and when it ends.
use Rattle.std.specs.Prelude.{◌≡◌, ◌⊎◌, ℕ, Bool, true, false, ◌||◌, if◌then◌else◌, List, [], slice_get, Option, Some, None, Result, Ok, Err, ⊤}
use Rattle.std.specs.Option.{option_map_or}
use Rattle.bm_lane_actor.specs.LaneEvents.{declines, event_of, fills}
use Rattle.bm_lane_actor.specs.declared.lane_event.LaneEvent.{LaneEvent}
use Rattle.bm_latent.specs.TickCounter.{CounterView, after_telling, told_at}
use Rattle.bm_latent.specs.declared.deadline.EndAct.{EndAct}
use Rattle.bm_latent.specs.declared.worker_event.WorkerEvent.{WorkerEvent}
use Rattle.bm_latent.specs.declared.worker_event.WorkerEvent.TheVariants as worker
use Rattle.bm_latent.specs.declared.worker_input.WorkerInput.TheVariants as came
use Rattle.bm_master.specs.Flow.{step_of}
use Rattle.bm_master.specs.Masters.{Hears, HearsEvent, IsCancelled, IsCommanded, IsEnded, MasterView, closed, woken}
use Rattle.bm_master.specs.Unstarted.{UnstartedView, assigned}
use Rattle.bm_master.specs.declared.master.Agenda.TheVariants as topic
use Rattle.bm_master.specs.declared.master_flow.FlowStep.TheVariants as flow_step
use Rattle.bm_master.specs.declared.values.MasterEffect.{MasterEffect}
use Rattle.bm_master.specs.declared.values.MasterEffect.TheVariants as order
use Rattle.bm_master.specs.declared.values.MasterRemark.TheVariants as news
use Rattle.bm_master.specs.declared.values.StartFailure.{StartFailure}
use Rattle.bm_operator.specs.declared.step_event.StepEvent.{StepEvent}
use Rattle.bm_operator.specs.declared.step_event.StepEvent.TheVariants as step
use Rattle.bm_programs.specs.Programs.{unmade}
use Rattle.bm_programs.specs.WorkerPrograms.{all_without_process, Changes, Ends, Looks, Starts}
use Rattle.bm_programs.specs.declared.worker_process.WorkerProcess.{WorkerProcess}
use Rattle.bm_coordinator.specs.declared.events.MasterEvent.{MasterEvent}
use Rattle.bm_coordinator.specs.declared.events.MasterEvent.TheVariants as event

-- Of a step the machine hears that it has started a command. All else is only told.
abbrev pub StepIsHeard : StepEvent → ℕ → MasterView → MasterView → Type 0
StepIsHeard (step.Started command) build old new = IsCommanded old new build command
StepIsHeard other build old new = new ≡ old

-- a worker's machine hears this of its lane, if there is anything to hear
abbrev pub WorkerHears : Option WorkerEvent → ℕ → MasterView → MasterView → Type 0
WorkerHears (Some event) at old new = HearsEvent old new at event
WorkerHears None at old new = new ≡ old

-- that its lane takes nothing more, where that is so
abbrev pub filling : LaneEvent → Option WorkerEvent
filling event = if fills event then Some worker.Filled else None

-- It hears what has happened to the lane, and then whether that is full.
abbrev pub LaneIsHeard : LaneEvent → ℕ → MasterView → MasterView → Type 0
LaneIsHeard event at old new =
    (between : MasterView) × WorkerHears (event_of event) at old between
    × WorkerHears (filling event) at between new

-- Of a worker that was told to shut down it hears to the end, and of no other one but refusals.
abbrev pub HearsLastIf : Bool → LaneEvent → ℕ → MasterView → MasterView → Type 0
HearsLastIf true event at old new = LaneIsHeard event at old new
HearsLastIf false event at old new = new ≡ old

abbrev pub HearsLastOf : LaneEvent → ℕ → MasterView → MasterView → Type 0
HearsLastOf event at old new =
    HearsLastIf
    (option_map_or (λ w. w.machine.dismissed) (slice_get old.workers at) false || declines event)
    event at old new

-- so many events lie ready
abbrev pub IsCounted : MasterView → MasterView → Type 0
IsCounted old new = (events : ℕ) × (new ≡ record old { unheard = Some events })

-- A build whose thread wasn't started, as the machine has it then: its agenda begins with it.
abbrev pub refused_start : UnstartedView → UnstartedView
refused_start build =
    record (assigned build.number build.worker build.viewer) {
      start = record build.start { told = true };
    }

pub record IsStartRefused (build : UnstartedView) (old new : MasterView) : Type 0 where
  pub agenda : new.agenda ≡ topic.Start 0
  pub workers : new.workers ≡ old.workers
  pub builds : new.builds ≡ record old.builds { unstarted = Some (refused_start build) }

-- The thread of this build was started, or not.
abbrev pub IsStartAnswered : UnstartedView → MasterView → MasterView → Type 0
IsStartAnswered build old new =
    (new ≡ record old { tells = Some (news.BuildStarted build.number build.worker) })
    ⊎ IsStartRefused build old new

-- What a machine hears of the start of a worker's program: whether it runs, or else whether what
-- failed may pass.
abbrev pub StartIsHeard : {A : Type 0} → Result A StartFailure → ℕ → MasterView → MasterView → Type 0
StartIsHeard (Ok _) at old new =
    Hears old new at came.Started × (new.tells ≡ Some (news.ProgramStarted at))
StartIsHeard (Err why) at old new = Hears old new at (came.Refused why.may_pass)

-- that the program of this worker has ended, where it has
abbrev pub EndIsHeard : Bool → ℕ → MasterView → MasterView → Type 0
EndIsHeard true at old new =
    Hears old new at came.Ended × (new.tells ≡ Some (news.ProgramEnded at))
EndIsHeard false at old new = new ≡ old

-- The flow of its work says that it leaves.
abbrev pub HasLeft : MasterView → Type 0
HasLeft m = step_of m.flow ≡ flow_step.Leave

-- no program has a process
abbrev pub NoneRuns : List (Option WorkerProcess) → Type 0
NoneRuns list = (before : List (Option WorkerProcess)) × (list ≡ all_without_process before)

-- What the coordinator is about: the machine, and the programs of workers. Up to when ticks were
-- told, the event that was taken last, and whether it has failed.
pub record CoordinatorView (E : Type 0) : Type 0 where
  pub master : MasterView
  pub programs : List (Option WorkerProcess)
  pub ticks : CounterView
  pub taken : Option E
  pub failed : Bool

module _ {E : Type 0} where
  -- nothing was heard
  abbrev pub begun : MasterView → List (Option WorkerProcess) → Bool → CoordinatorView E
  begun master programs failed =
      record {
        master = master;
        programs = programs;
        ticks = record { tick = 10; last = 0 };
        taken = None;
        failed = failed;
      }

  -- none but the machine of the master has changed
  abbrev pub OnlyMaster : CoordinatorView E → CoordinatorView E → Type 0
  OnlyMaster old new = new ≡ record old { master = new.master }

  -- A wait is over, at a time that the clock shows if it doesn't fail. The ticks that have ended
  -- are told once.
  abbrev pub Wakes : CoordinatorView E → CoordinatorView E → Type 0
  Wakes old new =
      (now : Option ℕ)
      × (new
      ≡ record old {
        master = woken (told_at old.ticks now) old.master;
        ticks = after_telling old.ticks now;
        taken = new.taken;
      })

  -- an event was taken, or none lay ready
  abbrev pub Listens : Option E → CoordinatorView E → CoordinatorView E → Type 0
  Listens (Some event) old new = Wakes old new
  Listens None old new =
      new ≡ record old { master = record old.master { unheard = Some 0 }; taken = None }

  -- A program is started, and what came of that is heard.
  abbrev pub StartsProgram : ℕ → CoordinatorView E → CoordinatorView E → Type 0
  StartsProgram at old new =
      ((r : Result (Unit {0}) StartFailure)
      × Changes (r ≡ Err (unmade [])) (Starts r) at old.programs new.programs
      × StartIsHeard r at old.master new.master)
      × (new ≡ record old { master = new.master; programs = new.programs })

  -- It is looked whether a program has ended, and heard where it has.
  abbrev pub LooksAtProgram : ℕ → CoordinatorView E → CoordinatorView E → Type 0
  LooksAtProgram at old new =
      ((ended : Bool)
      × Changes (ended ≡ false) (Looks ended) at old.programs new.programs
      × EndIsHeard ended at old.master new.master)
      × (new ≡ record old { master = new.master; programs = new.programs })

  -- A program is asked to end, or killed.
  abbrev pub EndsProgram : ℕ → EndAct → CoordinatorView E → CoordinatorView E → Type 0
  EndsProgram at act old new =
      Changes ⊤ (Ends act) at old.programs new.programs
      × (new ≡ record old { programs = new.programs })

  -- What can't be written counts as a failure, and one stays.
  abbrev pub Reports : CoordinatorView E → CoordinatorView E → Type 0
  Reports old new =
      (new ≡ record old { failed = new.failed }) × (old.failed ≡ true → new.failed ≡ true)

module _ {Y : Type 0} where
  -- Of these events something is kept: a build that has ended is handed in.
  abbrev pub HearsKept : MasterEvent Y → MasterView → MasterView → Type 0
  HearsKept (event.Ended build) old new = IsEnded old new build
  HearsKept other old new = new ≡ old

  -- what the machine hears of an event: most are only told
  abbrev pub HearsOf : MasterEvent Y → MasterView → MasterView → Type 0
  HearsOf (event.Lane at what) old new = LaneIsHeard what at old new
  HearsOf (event.Ended build) old new = IsEnded old new build
  HearsOf (event.Step reported) old new = StepIsHeard reported.event reported.build old new
  HearsOf (event.Cancel build) old new = IsCancelled old new build
  HearsOf event.InputEnded old new = new ≡ closed old
  HearsOf other old new = new ≡ old

  abbrev pub HearsIfSome : Option (MasterEvent Y) → MasterView → MasterView → Type 0
  HearsIfSome (Some event) old new = HearsOf event old new
  HearsIfSome None old new = new ≡ old

  -- The event that was taken is handed in, once.
  abbrev pub HearsTaken : CoordinatorView (MasterEvent Y) → CoordinatorView (MasterEvent Y) → Type 0
  HearsTaken old new =
      HearsIfSome old.taken old.master new.master
      × (new ≡ record old { master = new.master; taken = None })

  -- what it hears once all builds are over
  abbrev pub HearsLast : MasterEvent Y → MasterView → MasterView → Type 0
  HearsLast (event.Lane at what) old new = HearsLastOf what at old new
  HearsLast other old new = new ≡ old

  -- What is done by each effect, and what the machine hears in answer. To most it hears nothing.
  abbrev pub IsAnswered : MasterEffect Y → CoordinatorView (MasterEvent Y) → CoordinatorView (MasterEvent Y) → Type 0
  IsAnswered (order.StartBuild build) old new =
      IsStartAnswered build old.master new.master × OnlyMaster old new
  IsAnswered (order.StartProgram at) old new = StartsProgram at old new
  IsAnswered (order.LookAtProgram at) old new = LooksAtProgram at old new
  IsAnswered (order.EndProgram at act) old new = EndsProgram at act old new
  IsAnswered order.Report old new = Reports old new
  IsAnswered (order.Count timed) old new = IsCounted old.master new.master × OnlyMaster old new
  IsAnswered order.Listen old new = Listens new.taken old new
  IsAnswered order.Hear old new = HearsTaken old new
  IsAnswered (order.Wait timed counted) old new = Wakes old new
  IsAnswered other old new = new ≡ old

  -- it goes on until the machine says that it leaves
  abbrev pub goes_on : MasterEffect Y → Bool
  goes_on order.Leave = false
  goes_on other = true

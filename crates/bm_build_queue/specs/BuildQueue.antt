-- A build queue, and what it does to its board. On the board a build is one step, whose outcome is
-- what the build's runner reports.
use Rattle.std.specs.Prelude.{◌≡◌, ◌⊎◌, ◌<◌, ℕ, ◌==◌, nat_lt, Bool, true, false, ◌&&◌, if◌then◌else◌, [], ◌∷◌, List, length, slice_get, IsOk, Option, Some, None, Result, Ok, Err}
use Rattle.std.specs.Option.{option_map, option_map_or}
use Rattle.std.specs.Result.{is_ok}
use Rattle.bm_session.specs.declared.results.Results.{Results}
use Rattle.bm_session.specs.declared.results.Results.TheVariants.{Success, Cancelled}
use Rattle.bm_board.specs.declared.plan.StepPlan.{StepPlan}
use Rattle.bm_board.specs.declared.plan.Build.{Build}
use Rattle.bm_board.specs.declared.scheduled_build.Phase.{Phase}
use Rattle.bm_board.specs.declared.scheduled_build.Phase.TheVariants.{Running, Over}
use Rattle.bm_board.specs.declared.scheduled_build.Started.{Started}
use Rattle.bm_board.specs.Steps.{worse}
use Rattle.bm_board.specs.declared.refusal.BoardRefusal.{BoardRefusal}
use Rattle.bm_build_queue.specs.ViewerPool.{PoolState}
use Rattle.bm_board.specs.ScheduledBuild.{answer_of, cancel, finish, give_up, release}
use Rattle.bm_board.specs.Board.{BoardState, board_after, occupied, on_build, start, result_on, worker_of}

-- its board, the viewers that no build has, and whether memory was wanting for the last start
pub record QueueState : Type 0 where
  pub board : BoardState
  pub pools : List PoolState
  pub is_short : Bool

-- the queue with another board
abbrev pub with_board : QueueState → BoardState → QueueState
with_board q b = record { board = b; pools = q.pools; is_short = q.is_short }

-- the step that stands for a build: a failure of it fails the build
abbrev pub whole : StepPlan
whole =
    record {
      name = [];
      argv = [];
      halt_on_failure = false;
      flunk_on_failure = true;
      always_run = false;
      max_bytes = 0;
      timeout_ticks = 0;
      silent_ticks = 0;
    }

-- what a build is on the board: its worker, its locks, and that step
abbrev pub on_board : Build → Build
on_board build = record { worker = build.worker; locks = build.locks; steps = whole ∷ [] }

-- the worker of a build that was started
abbrev pub worker_in : Result Started BoardRefusal → Option ℕ
worker_in (Ok started) = Some started.worker
worker_in (Err why) = None

-- The build was started on this worker. It waited, the worker was ready and had a free slot, and
-- each of the build's locks could be had.
pub record IsStarted (old new : BoardState) (number worker : ℕ) : Type 0 where
  pub answer : worker_in (answer_of (on_build (start old) old number)) ≡ Some worker
  pub board : new ≡ board_after old number (on_build (start old) old number)

-- a build can be started
abbrev pub CanStart : BoardState → Type 0
CanStart b = (number : ℕ) × IsOk (on_build (start b) b number)

-- a viewer of the worker's lane is left for a build
abbrev pub has_viewer : List PoolState → ℕ → Bool
has_viewer pools worker =
    option_map_or (λ pool. pool.lane == worker && nat_lt 0 (length pool.viewers))
    (slice_get pools worker) false

-- The build of this number can be started now. It waits, its worker is ready and has a free slot
-- and a viewer left, and each of its locks may be had.
abbrev pub can_start : QueueState → ℕ → Bool
can_start q number =
    is_ok (on_build (start q.board) q.board number)
    && option_map_or (has_viewer q.pools) (worker_of q.board number) false

-- the board once a build's step ended so
abbrev pub after_step : BoardState → ℕ → Results → BoardState
after_step b number result = board_after b number (on_build (finish result) b number)

-- the board once a build gave back what it holds
abbrev pub after_release : BoardState → ℕ → BoardState
after_release b number = board_after b number (on_build release b number)

-- the board once a build was cancelled
abbrev pub after_cancel : BoardState → ℕ → BoardState
after_cancel b number = board_after b number (on_build cancel b number)

-- the board once a build that waited was given up
abbrev pub after_giving_up : BoardState → ℕ → BoardState
after_giving_up b number = board_after b number (on_build give_up b number)

-- how the build of this number stands
abbrev pub phase_on : BoardState → ℕ → Option Phase
phase_on b number = option_map (λ job. job.phase) (slice_get b.jobs number)

-- The result of a build that ran, by whether it was cancelled meanwhile and what its runner
-- reports. It is SUCCESS in place of SKIPPED, since its step was not skipped.
abbrev pub result_by : Bool → Results → Results
result_by cancelled reported = if cancelled then Cancelled else worse Success reported

-- a build that ran has this result now, and holds its slot and its locks
abbrev pub Reports : BoardState → BoardState → ℕ → Results → Type 0
Reports old new number reported =
    (step : ℕ) (cancelled : Bool) → phase_on old number ≡ Some (Running step cancelled)
    → phase_on new number ≡ Some (Over (result_by cancelled reported) true)

-- as many slots of each worker are taken as before
abbrev pub HoldsSlots : BoardState → BoardState → Type 0
HoldsSlots old new = (worker : ℕ) → occupied worker new.jobs ≡ occupied worker old.jobs

-- a build that is over has its result still, and holds nothing
abbrev pub Releases : BoardState → BoardState → ℕ → Type 0
Releases old new number =
    (result : Results) (holds : Bool) → phase_on old number ≡ Some (Over result holds)
    → phase_on new number ≡ Some (Over result false)

-- the build of this number has its result
abbrev pub HasResult : BoardState → ℕ → Type 0
HasResult b number = (r : Results) × (result_on b number ≡ Ok (Some r))

-- the build of this number has no result yet, or there is none of this number
abbrev pub LacksResult : BoardState → ℕ → Type 0
LacksResult b number =
    (result_on b number ≡ Ok None) ⊎ ((why : BoardRefusal) × (result_on b number ≡ Err why))

-- how each build ended, by its number
pub record AreResults (b : BoardState) (results : List Results) : Type 0 where
  pub count : length results ≡ length b.jobs
  pub each : (n : ℕ) (r : Results) → slice_get results n ≡ Some r → result_on b n ≡ Ok (Some r)

-- every build has its result: no build has this number, and each before it has its result
pub record IsOver (b : BoardState) : Type 0 where
  pub number : ℕ
  pub none : (why : BoardRefusal) × (result_on b number ≡ Err why)
  pub each : (k : ℕ) → k < number → HasResult b k

-- The board as its workers, its locks and its builds, and what each call does to it.
use Rattle.std.specs.Prelude.{◌≡◌, ℕ, ◌≤◌, ◌<◌, Bool, false, ◌&&◌, ◌==◌, nat_lt, if◌then◌else◌, List, [], ◌∷◌, ◌++◌, length, map, count_by, slice_get, slice_index, slice_set, Option, Some, None, Result, Ok, Err}
use Rattle.std.specs.List.{list_any, list_all}
use Rattle.std.specs.Option.{option_map, option_map_or}
use Rattle.bm_board.specs.declared.plan.Mode.{Mode}
use Rattle.bm_board.specs.declared.plan.Mode.TheVariants.{Counting, Exclusive}
use Rattle.bm_board.specs.declared.plan.LockUse.{LockUse}
use Rattle.bm_board.specs.declared.plan.Build.{Build}
use Rattle.bm_session.specs.declared.results.Results.{Results}
use Rattle.bm_board.specs.declared.scheduled_build.Started.{Started}
use Rattle.bm_board.specs.declared.worker_slots.WorkerSlots.{WorkerSlots}
use Rattle.bm_board.specs.declared.refusal.BoardRefusal.{BoardRefusal}
use Rattle.bm_board.specs.declared.refusal.BoardRefusal.TheVariants.{NoBuild, NotWaiting, NoWorker, LockHeld, BadLock, Full}
use Rattle.bm_board.specs.Locks.{is_use, are_good, may_have}
use Rattle.bm_board.specs.ScheduledBuild.{BuildState, Outcome, is_waiting, is_holding, waiting, waits_for, started, first_of, result_in}

-- the workers, the locks' maxima, and the builds by number
pub record BoardState : Type 0 where
  pub workers : List WorkerSlots
  pub maxima : List ℕ
  pub jobs : List BuildState

-- a new board: no worker is ready, and no build is there
abbrev pub opening : List ℕ → List ℕ → BoardState
opening slots maxima =
    record {
      workers = map (λ n. record { slots = n; ready = false }) slots;
      maxima = maxima;
      jobs = [];
    }

-- the build holds a slot of the worker
abbrev pub occupies : ℕ → BuildState → Bool
occupies worker job = is_holding job.phase && job.build.worker == worker

-- the build holds the lock in the mode
abbrev pub holds_lock : Mode → ℕ → BuildState → Bool
holds_lock mode lock job = is_holding job.phase && list_any (is_use mode lock) job.build.locks

-- how many builds hold a slot of the worker
abbrev pub occupied : ℕ → List BuildState → ℕ
occupied worker jobs = count_by (occupies worker) jobs

-- how many builds hold the lock in the mode
abbrev pub holders : Mode → ℕ → List BuildState → ℕ
holders mode lock jobs = count_by (holds_lock mode lock) jobs

-- a build waits for the worker
abbrev pub is_wanted : BoardState → ℕ → Bool
is_wanted b worker = list_any (waits_for worker) b.jobs

-- a build of the worker was started, and hasn't given its slot back
abbrev pub has_build : BoardState → ℕ → Bool
has_build b worker = list_any (occupies worker) b.jobs

-- the worker of the build of this number, where there is such a build
abbrev pub worker_of : BoardState → ℕ → Option ℕ
worker_of b id = option_map (λ job. job.build.worker) (slice_get b.jobs id)

-- the worker is there, and takes builds
abbrev pub is_ready : BoardState → ℕ → Bool
is_ready b w = option_map_or (λ worker. worker.ready) (slice_get b.workers w) false

-- The builds are within their limits. Each lock has one exclusive holder, or at most its maximum of
-- counting ones. No worker has more builds that run or are not released than slots.
pub record IsWithinLimits (b : BoardState) : Type 0 where
  pub slots : (w : ℕ) → w < length b.workers
      → occupied w b.jobs ≤ slice_index (map (λ worker. worker.slots) b.workers) w
  pub counting : (lock : ℕ) → lock < length b.maxima
      → holders Counting lock b.jobs ≤ slice_index b.maxima lock
  pub exclusive : (lock : ℕ) → lock < length b.maxima → holders Exclusive lock b.jobs ≤ 1
  pub alone : (lock : ℕ) → lock < length b.maxima → 0 < holders Exclusive lock b.jobs
      → holders Counting lock b.jobs ≡ 0

-- the worker with its readiness
abbrev pub with_ready : BoardState → ℕ → Bool → BoardState
with_ready b w ready =
    record {
      workers =
          option_map_or
          (λ worker. slice_set b.workers w (record { slots = worker.slots; ready = ready }))
          (slice_get b.workers w) b.workers;
      maxima = b.maxima;
      jobs = b.jobs;
    }

-- how many builds a board takes
abbrev pub most_builds : ℕ
most_builds = 10000

-- why a build is not added, if it is not
abbrev pub add_refusal : BoardState → Build → Option BoardRefusal
add_refusal b build =
    if nat_lt build.worker (length b.workers)
    then (if are_good (length b.maxima) build.locks
    then (if nat_lt (length b.jobs) most_builds then None else Some Full)
    else Some BadLock)
    else Some NoWorker

-- the board with one more build, which waits
abbrev pub with_build : BoardState → Build → BoardState
with_build b build =
    record { workers = b.workers; maxima = b.maxima; jobs = b.jobs ++ waiting build ∷ [] }

-- the worker is ready and has a free slot
abbrev pub has_place : BoardState → ℕ → Bool
has_place b w =
    option_map_or (λ worker. worker.ready && nat_lt (occupied w b.jobs) worker.slots)
    (slice_get b.workers w) false

-- the use may be had beside the lock's holders
abbrev pub is_free : BoardState → LockUse → Bool
is_free b u =
    may_have u.mode (slice_index b.maxima u.lock) (holders Counting u.lock b.jobs)
    (holders Exclusive u.lock b.jobs)

-- a waiting build starts on its worker where that has a place and each lock may be had
abbrev pub start : BoardState → BuildState → Outcome Started
start b job =
    if is_waiting job.phase
    then (if has_place b job.build.worker
    then (if list_all (is_free b) job.build.locks
    then Ok (started job, record { worker = job.build.worker; next = first_of job })
    else Err LockHeld)
    else Err NoWorker)
    else Err NotWaiting

-- a call on the build of this number
abbrev pub on_build : {T : Type 0} → (BuildState → Outcome T) → BoardState → ℕ → Outcome T
on_build call b id = option_map_or call (slice_get b.jobs id) (Err NoBuild)

-- the board after a call on the build of this number; a refused call changes nothing
abbrev pub board_after : {T : Type 0} → BoardState → ℕ → Outcome T → BoardState
board_after b id (Ok p) =
    record { workers = b.workers; maxima = b.maxima; jobs = slice_set b.jobs id p.0 }
board_after b id (Err refusal) = b

-- the result of the build of this number, None before its end
abbrev pub result_on : BoardState → ℕ → Result (Option Results) BoardRefusal
result_on b id = option_map_or (λ job. Ok (result_in job.phase)) (slice_get b.jobs id) (Err NoBuild)

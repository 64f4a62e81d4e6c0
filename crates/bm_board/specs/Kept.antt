-- What a board keeps beside its builds, counted as they change. These are how many slots are taken,
-- how often each lock is held, and how many builds wait for each worker.
use Rattle.std.specs.Prelude.{◌≡◌, ℕ, ◌+◌, ◌<◌, ◌≤◌, ◌^◌, Bool, true, ◌&&◌, ◌==◌, nat_lt, if◌then◌else◌, IsTrue, All, List, length, count_by, slice_index}
use Rattle.std.specs.List.{list_any, list_all}
use Rattle.bm_board.specs.declared.plan.Mode.{Mode}
use Rattle.bm_board.specs.declared.plan.Mode.TheVariants.{Counting, Exclusive}
use Rattle.bm_board.specs.declared.plan.LockUse.{LockUse}
use Rattle.bm_board.specs.declared.plan.Build.{Build}
use Rattle.bm_board.specs.Locks.{is_mode, is_use, are_distinct, are_good, may_have}
use Rattle.bm_board.specs.ScheduledBuild.{BuildState, waits_for}
use Rattle.bm_board.specs.Board.{BoardState, occupied, holders, IsWithinLimits, most_builds}

-- the slots taken of each worker, and the holders of each lock in each mode
pub record HeldCounts : Type 0 where
  pub taken : List ℕ
  pub counting : List ℕ
  pub exclusive : List ℕ

-- what is held, and how many builds wait for each worker
pub record BoardCounts : Type 0 where
  pub held : HeldCounts
  pub waiting : List ℕ

-- `more` counts one build more for the worker
pub record IsOneMore (few more : List ℕ) (worker : ℕ) : Type 0 where
  pub each : length more ≡ length few
  pub counts : (w : ℕ) → slice_index more w ≡ slice_index few w + (if worker == w then 1 else 0)

-- how many slots of the worker the build takes
abbrev pub place_share : ℕ → Build → ℕ
place_share w build = if build.worker == w then 1 else 0

-- how often the build holds the lock in the mode
abbrev pub lock_share : Mode → ℕ → Build → ℕ
lock_share mode lock build = if list_any (is_use mode lock) build.locks then 1 else 0

-- `more` has each slot and lock that `t` has, and those of one build more
pub record IsTaken (t more : HeldCounts) (build : Build) : Type 0 where
  pub workers : length more.taken ≡ length t.taken
  pub locks : length more.counting ≡ length t.counting
  pub locks_too : length more.exclusive ≡ length t.exclusive
  pub slots : (w : ℕ) → w < length t.taken → slice_index more.taken w
      ≡ slice_index t.taken w + place_share w build
  pub shared : (lock : ℕ) → lock < length t.counting → slice_index more.counting lock
      ≡ slice_index t.counting lock + lock_share Counting lock build
  pub alone : (lock : ℕ) → lock < length t.exclusive → slice_index more.exclusive lock
      ≡ slice_index t.exclusive lock + lock_share Exclusive lock build

-- the build's worker and locks are counted, and it names no lock twice
pub record IsListed (t : HeldCounts) (build : Build) : Type 0 where
  pub worker : build.worker < length t.taken
  pub counting : All (λ u. u.lock < length t.counting) build.locks
  pub exclusive : All (λ u. u.lock < length t.exclusive) build.locks
  pub distinct : are_distinct build.locks ≡ true

-- each use may be had beside the holders that are counted
abbrev pub are_free : HeldCounts → List ℕ → List LockUse → Bool
are_free t maxima uses =
    list_all (λ u. may_have u.mode (slice_index maxima u.lock)
    (slice_index t.counting u.lock) (slice_index t.exclusive u.lock)) uses

-- the counts that a build adds to stay in their types
pub record HasRoom (t : HeldCounts) (build : Build) : Type 0 where
  pub worker : slice_index t.taken build.worker + 1 < 2 ^ 8
  pub counting : All (λ u. is_mode u.mode Counting ≡ true
      → slice_index t.counting u.lock + 1 < 2 ^ 32) build.locks
  pub exclusive : All (λ u. is_mode u.mode Exclusive ≡ true
      → slice_index t.exclusive u.lock + 1 < 2 ^ 32) build.locks

-- the build's slot and locks are among the counts
pub record IsHeld (t : HeldCounts) (build : Build) : Type 0 where
  pub worker : 0 < slice_index t.taken build.worker
  pub counting : All (λ u. is_mode u.mode Counting ≡ true
      → 0 < slice_index t.counting u.lock) build.locks
  pub exclusive : All (λ u. is_mode u.mode Exclusive ≡ true
      → 0 < slice_index t.exclusive u.lock) build.locks

-- the build's worker and locks are on the board
abbrev pub is_known : ℕ → ℕ → BuildState → Bool
is_known workers locks job = nat_lt job.build.worker workers && are_good locks job.build.locks

-- the counts of what is held are those of the builds
pub record AreCounts (b : BoardState) (t : HeldCounts) : Type 0 where
  pub workers : length t.taken ≡ length b.workers
  pub locks : length t.counting ≡ length b.maxima
  pub locks_too : length t.exclusive ≡ length b.maxima
  pub slots : (w : ℕ) → w < length b.workers → slice_index t.taken w ≡ occupied w b.jobs
  pub shared : (lock : ℕ) → lock < length b.maxima → slice_index t.counting lock
      ≡ holders Counting lock b.jobs
  pub alone : (lock : ℕ) → lock < length b.maxima → slice_index t.exclusive lock
      ≡ holders Exclusive lock b.jobs

-- these are the builds that wait for each worker
pub record AreWaiting (b : BoardState) (waiting : List ℕ) : Type 0 where
  pub workers : length waiting ≡ length b.workers
  pub waits : (w : ℕ) → slice_index waiting w ≡ count_by (waits_for w) b.jobs

-- what holds of a board and what it holds at any time
pub record IsKept (b : BoardState) (t : HeldCounts) : Type 0 where
  pub few : length b.jobs ≤ most_builds
  pub known : All (λ job. IsTrue (is_known (length b.workers) (length b.maxima) job)) b.jobs
  pub counts : AreCounts b t
  pub within : IsWithinLimits b

-- what holds of a board and all that it counts at any time
pub record IsCounted (b : BoardState) (t : BoardCounts) : Type 0 where
  pub held : IsKept b t.held
  pub waiting : AreWaiting b t.waiting

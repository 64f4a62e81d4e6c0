-- Worked examples of steps and of the board, closed.
use Rattle.std.proofs.Common.{◌≡◌, ℕ, Bool, true, false, List, [], ◌∷◌, Some, Ok, Err, refl}
use Rattle.bm_session.specs.declared.results.Results.TheVariants.{Success, Failure, Skipped, Retry, Cancelled}
use Rattle.bm_board.specs.declared.plan.Mode.TheVariants.{Counting, Exclusive}
use Rattle.bm_board.specs.declared.plan.LockUse.{LockUse}
use Rattle.bm_board.specs.declared.plan.StepPlan.{StepPlan}
use Rattle.bm_board.specs.declared.plan.Build.{Build}
use Rattle.bm_board.specs.declared.steps.Next.TheVariants.{Step, Ended}
use Rattle.bm_board.specs.declared.refusal.BoardRefusal.TheVariants.{NoBuild, NotWaiting, NotRunning, NoWorker, LockHeld, BadLock}
use Rattle.bm_board.specs.Steps.{next_of}
use Rattle.bm_board.specs.ScheduledBuild.{BuildState, Outcome, answer_of, cancel, finish, give_up, release}
use Rattle.bm_board.specs.Board.{BoardState, opening, with_ready, with_build, add_refusal, on_build, board_after, start, result_on}

-- a step by its flags: haltOnFailure, flunkOnFailure, alwaysRun
abbrev step : Bool → Bool → Bool → StepPlan
step halts flunks always = record { name = []; argv = []; halt_on_failure = halts; flunk_on_failure = flunks; always_run = always; max_bytes = 0; timeout_ticks = 0; silent_ticks = 0 }

-- a step that halts the build where it fails, a plain one, and one that always runs
abbrev three : List StepPlan
three = step true true false ∷ step false true false ∷ step false true true ∷ []

failure_halts : next_of three (Failure ∷ []) ≡ Step 2
failure_halts = refl

worst_counts : next_of three (Failure ∷ Skipped ∷ Success ∷ []) ≡ Ended Failure
worst_counts = refl

nothing_runs_after_retry : next_of three (Retry ∷ []) ≡ Ended Retry
nothing_runs_after_retry = refl

no_steps_succeed : next_of [] [] ≡ Ended Success
no_steps_succeed = refl

-- a failure without flunkOnFailure
unflunked_failure_succeeds : next_of (step false false false ∷ []) (Failure ∷ []) ≡ Ended Success
unflunked_failure_succeeds = refl

-- a build of one step
abbrev one : ℕ → List LockUse → Build
one worker uses = record { worker = worker; locks = uses; steps = step false true false ∷ [] }

abbrev counting : List LockUse
counting = record { lock = 0; mode = Counting } ∷ []

abbrev exclusive : List LockUse
exclusive = record { lock = 0; mode = Exclusive } ∷ []

-- the board after a call on one build
abbrev called : {T : Type 0} → (BoardState → BuildState → Outcome T) → BoardState → ℕ → BoardState
called call b id = board_after b id (on_build (call b) b id)

-- three ready workers of one slot, a lock of two holders, and four builds
abbrev four : BoardState
four =
    let b = with_ready (with_ready (with_ready (opening (1 ∷ 1 ∷ 1 ∷ []) (2 ∷ [])) 0 true) 1 true) 2 true in
    with_build (with_build (with_build (with_build b (one 0 counting)) (one 1 counting)) (one 2 exclusive)) (one 0 counting)

-- two of them run
abbrev two_run : BoardState
two_run = called start (called start four 0) 1

first_starts : answer_of (on_build (start four) four 0) ≡ Ok (record { worker = 0; next = Step 0 })
first_starts = refl

exclusive_waits : answer_of (on_build (start two_run) two_run 2) ≡ Err LockHeld
exclusive_waits = refl

slot_is_taken : answer_of (on_build (start two_run) two_run 3) ≡ Err NoWorker
slot_is_taken = refl

-- one of them is over, and released
abbrev one_runs : BoardState
one_runs = called (λ _. release) (called (λ _. finish Success) two_run 0) 0

exclusive_waits_on : answer_of (on_build (start one_runs) one_runs 2) ≡ Err LockHeld
exclusive_waits_on = refl

-- the other fails, and is released too
abbrev none_runs : BoardState
none_runs = called (λ _. release) (called (λ _. finish Failure) one_runs 1) 1

failure_is_the_result : result_on none_runs 1 ≡ Ok (Some Failure)
failure_is_the_result = refl

exclusive_starts : answer_of (on_build (start none_runs) none_runs 2) ≡ Ok (record { worker = 2; next = Step 0 })
exclusive_starts = refl

unknown_is_refused : answer_of (on_build (start none_runs) none_runs 9) ≡ Err NoBuild
unknown_is_refused = refl

running_is_not_released : answer_of (on_build release (called start none_runs 2) 2) ≡ Err NotRunning
running_is_not_released = refl

-- a waiting build is cancelled, and of a running one the next step counts as cancelled
waiting_is_cancelled : (answer_of (on_build cancel four 2) ≡ Ok false) × (result_on (called (λ _. cancel) four 2) 2 ≡ Ok (Some Cancelled)) × (answer_of (on_build cancel (called (λ _. cancel) four 2) 2) ≡ Err NotRunning)
waiting_is_cancelled = (refl, refl, refl)

running_is_cancelled : (answer_of (on_build cancel two_run 0) ≡ Ok true) × (answer_of (on_build (finish Success) (called (λ _. cancel) two_run 0) 0) ≡ Ok (Ended Cancelled))
running_is_cancelled = (refl, refl)

given_up_is_retry : (result_on (called (λ _. give_up) four 3) 3 ≡ Ok (Some Retry)) × (answer_of (on_build (start (called (λ _. give_up) four 3)) (called (λ _. give_up) four 3) 3) ≡ Err NotWaiting)
given_up_is_retry = (refl, refl)

lock_named_twice_is_refused : add_refusal four (one 0 (record { lock = 0; mode = Counting } ∷ record { lock = 0; mode = Exclusive } ∷ [])) ≡ Some BadLock
lock_named_twice_is_refused = refl

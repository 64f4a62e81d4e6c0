-- A build on the board: whether it waits, runs or is over, and what each call does to it.
use Rattle.std.specs.Prelude.{◌≡◌, ℕ, ◌+◌, Bool, true, false, ◌&&◌, ◌==◌, nat_lt, if◌then◌else◌, List, [], length, take, replicate, slice_set, Option, Some, None, Result, Ok, Err}
use Rattle.bm_session.specs.declared.results.Results.{Results}
use Rattle.bm_session.specs.declared.results.Results.TheVariants.{Skipped, Retry, Cancelled}
use Rattle.bm_board.specs.declared.plan.Build.{Build}
use Rattle.bm_board.specs.declared.steps.Next.{Next}
use Rattle.bm_board.specs.declared.steps.Next.TheVariants.{Step, Ended}
use Rattle.bm_board.specs.declared.scheduled_build.Phase.{Phase}
use Rattle.bm_board.specs.declared.scheduled_build.Phase.TheVariants.{Waiting, Running, Over}
use Rattle.bm_board.specs.declared.refusal.BoardRefusal.{BoardRefusal}
use Rattle.bm_board.specs.declared.refusal.BoardRefusal.TheVariants.{NotWaiting, NotRunning}
use Rattle.bm_board.specs.Steps.{next_of}

-- a build, its phase, and from its start on an outcome for each step, SKIPPED until it is done
pub record BuildState : Type 0 where
  pub build : Build
  pub phase : Phase
  pub outcomes : List Results

-- a build that was just added
abbrev pub waiting : Build → BuildState
waiting build = record { build = build; phase = Waiting; outcomes = [] }

abbrev pub is_waiting : Phase → Bool
is_waiting Waiting = true
is_waiting (Running step cancelled) = false
is_waiting (Over result holds) = false

-- the build waits for the worker
abbrev pub waits_for : ℕ → BuildState → Bool
waits_for worker job = is_waiting job.phase && job.build.worker == worker

-- it holds its worker's slot and its locks: from its start until it is released
abbrev pub is_holding : Phase → Bool
is_holding Waiting = false
is_holding (Running step cancelled) = true
is_holding (Over result holds) = holds

-- the phase of a started build that goes on so
abbrev pub phase_of : Next → Phase
phase_of (Step step) = Running step false
phase_of (Ended result) = Over result true

-- what follows the start of a build
abbrev pub first_of : BuildState → Next
first_of job = next_of job.build.steps []

-- a build after its start
abbrev pub started : BuildState → BuildState
started job =
    record {
      build = job.build;
      phase = phase_of (first_of job);
      outcomes = replicate (length job.build.steps) Skipped;
    }

-- what a call does to a build: the build after it and the answer, or why it is refused
abbrev pub Outcome : Type 0 → Type 0
Outcome T = Result (BuildState × T) BoardRefusal

-- the build with its phase, the rest as before
abbrev pub in_phase : BuildState → Phase → BuildState
in_phase job phase = record { build = job.build; phase = phase; outcomes = job.outcomes }

-- the outcomes once the step is done: CANCELLED where the build was cancelled meanwhile
abbrev pub done : List Results → ℕ → Bool → Results → List Results
done outcomes step cancelled outcome =
    slice_set outcomes step (if cancelled then Cancelled else outcome)

-- the build goes on with these outcomes, of which so many count
abbrev pub goes_on : BuildState → List Results → ℕ → Outcome Next
goes_on job outcomes count =
    let next = next_of job.build.steps (take count outcomes) in
    Ok (record { build = job.build; phase = phase_of next; outcomes = outcomes }, next)

-- the step that runs ends so: what follows
abbrev pub finish_in : Phase → Results → BuildState → Outcome Next
finish_in Waiting outcome job = Err NotRunning
finish_in (Running step cancelled) outcome job =
    goes_on job (done job.outcomes step cancelled outcome) (step + 1)
finish_in (Over result holds) outcome job = Err NotRunning

abbrev pub finish : Results → BuildState → Outcome Next
finish outcome job = finish_in job.phase outcome job

-- a waiting build ends CANCELLED (false); of a running one the step that runs will count as
-- CANCELLED (true)
abbrev pub cancel_in : Phase → BuildState → Outcome Bool
cancel_in Waiting job = Ok (in_phase job (Over Cancelled false), false)
cancel_in (Running step cancelled) job = Ok (in_phase job (Running step true), true)
cancel_in (Over result holds) job = Err NotRunning

abbrev pub cancel : BuildState → Outcome Bool
cancel job = cancel_in job.phase job

-- a build that is over gives back its slot and its locks
abbrev pub release_in : Phase → BuildState → Outcome (Unit {0})
release_in Waiting job = Err NotRunning
release_in (Running step cancelled) job = Err NotRunning
release_in (Over result true) job = Ok (in_phase job (Over result false), tt)
release_in (Over result false) job = Err NotRunning

abbrev pub release : BuildState → Outcome (Unit {0})
release job = release_in job.phase job

-- it is over, and holds its slot and its locks
abbrev pub is_unreleased : Phase → Bool
is_unreleased Waiting = false
is_unreleased (Running step cancelled) = false
is_unreleased (Over result holds) = holds

-- a waiting build ends RETRY
abbrev pub give_up_in : Phase → BuildState → Outcome (Unit {0})
give_up_in Waiting job = Ok (in_phase job (Over Retry false), tt)
give_up_in (Running step cancelled) job = Err NotWaiting
give_up_in (Over result holds) job = Err NotWaiting

abbrev pub give_up : BuildState → Outcome (Unit {0})
give_up job = give_up_in job.phase job

-- the result of a build that is over
abbrev pub result_in : Phase → Option Results
result_in Waiting = None
result_in (Running step cancelled) = None
result_in (Over result holds) = Some result

-- the build after a call; a refused call changes nothing
abbrev pub job_after : {T : Type 0} → BuildState → Outcome T → BuildState
job_after job (Ok p) = p.0
job_after job (Err refusal) = job

-- the answer of a call
abbrev pub answer_of : {T : Type 0} → Outcome T → Result T BoardRefusal
answer_of (Ok p) = Ok p.1
answer_of (Err refusal) = Err refusal

-- the same build, which holds its slot and locks as before
pub record IsSameHolder (old new : BuildState) : Type 0 where
  pub build : new.build ≡ old.build
  pub holding : is_holding new.phase ≡ is_holding old.phase

-- a running build is at one of its steps, and has an outcome for each
abbrev pub is_sound : Phase → ℕ → ℕ → Bool
is_sound Waiting steps outcomes = true
is_sound (Running step cancelled) steps outcomes = nat_lt step steps && outcomes == steps
is_sound (Over result holds) steps outcomes = true

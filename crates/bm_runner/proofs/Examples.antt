-- Worked examples of what a run reports, closed.
use Rattle.std.proofs.Common.{◌≡◌, ℕ, Bool, true, false, List, [], ◌∷◌, Option, Some, None, refl}
use Rattle.bm_session.specs.declared.results.Results.{Results}
use Rattle.bm_session.specs.declared.results.Results.TheVariants.{Success, Failure, Skipped, Exception, Retry}
use Rattle.bm_board.specs.declared.plan.StepPlan.{StepPlan}
use Rattle.bm_board.specs.Steps.{result_of}
use Rattle.bm_runner.specs.declared.port.Told.{Told}
use Rattle.bm_runner.specs.Run.{runs_at, ran, told_outcomes}

-- a step by its flags: haltOnFailure, alwaysRun
abbrev step : Bool → Bool → StepPlan
step halts always = record { name = []; argv = []; halt_on_failure = halts; flunk_on_failure = true; always_run = always; max_bytes = 0; timeout_ticks = 0; silent_ticks = 0 }

-- a step that halts the build where it fails, a plain one, and one that always runs
abbrev three : List StepPlan
three = step true false ∷ step false false ∷ step false true ∷ []

-- an entry with its end
abbrev told : ℕ → Option Results → Told
told k ended = record { k = k; polls = 1; ended = ended }

-- the first step fails
abbrev failed : List Results
failed = Failure ∷ Skipped ∷ Success ∷ []

failure_skips_the_plain_step : (runs_at three failed 0 ≡ true) × (runs_at three failed 1 ≡ false) × (runs_at three failed 2 ≡ true)
failure_skips_the_plain_step = (refl, refl, refl)

failed_is_told : ran failed ≡ told_outcomes (told 0 (Some Failure) ∷ told 1 (Some Success) ∷ []) false
failed_is_told = refl

failure_is_the_result : result_of three failed ≡ Failure
failure_is_the_result = refl

-- the first step ends RETRY
abbrev retried : List Results
retried = Retry ∷ Skipped ∷ Skipped ∷ []

nothing_runs_after_retry : (runs_at three retried 1 ≡ false) × (runs_at three retried 2 ≡ false)
nothing_runs_after_retry = (refl, refl)

-- the worker is lost between two steps
lost_worker_is_retry : ran (Success ∷ Retry ∷ Skipped ∷ []) ≡ told_outcomes (told 0 (Some Success) ∷ []) true
lost_worker_is_retry = refl

-- a command that ended SKIPPED, and one without an end
skipped_command_is_an_exception : ran (Exception ∷ []) ≡ told_outcomes (told 0 (Some Skipped) ∷ []) false
skipped_command_is_an_exception = refl

unended_command_is_an_exception : ran (Exception ∷ []) ≡ told_outcomes (told 0 None ∷ []) false
unended_command_is_an_exception = refl

-- What a run of a build's steps tells and reports.
use Rattle.std.proofs.Common.{◌≡◌, ◌≢◌, ℕ, ◌<◌, Bool, true, false, cond, List, [], ◌∷◌, ◌++◌, length, Option, Some, Result, Ok, Err, IfOk, OnOk, refl, sym, ap, ◌∙◌, arith}
use Rattle.std.specs.Prelude.{if◌then◌else◌}
use Rattle.std.specs.List.{slice_get}
use Rattle.std.specs.Option.{option_map_or}
use Rattle.std.specs.declared.alloc.AllocError.{AllocError}
use Rattle.std.proofs.lemmas.List.{append_cancel_left, length-append}
use Rattle.bm_session.specs.declared.results.Results.{Results}
use Rattle.bm_session.specs.declared.results.Results.TheVariants.{Success, Failure, Skipped, Exception, Retry}
use Rattle.bm_board.specs.declared.plan.StepPlan.{StepPlan}
use Rattle.bm_board.specs.Steps.{result_of, worse}
use Rattle.bm_runner.specs.declared.port.Told.{Told}
use Rattle.bm_runner.specs.declared.run.Report.{Report}
use Rattle.bm_runner.specs.Run.{IsRun, counted, ran, runs_at, told_outcomes}

-- the first step runs, so that some outcome isn't SKIPPED
some_ran : (step : StepPlan) (steps : List StepPlan) (outcomes : List Results) → length outcomes ≡ length (step ∷ steps)
    → (slice_get outcomes 0 ≡ Some Skipped → runs_at (step ∷ steps) outcomes 0 ≡ false) → ran outcomes ≡ [] → ⊥
some_ran step steps [] count skipped none = omega (arith, count)
some_ran step steps (Skipped ∷ outcomes) count skipped none = let never : true ≡ false = skipped refl in cc
some_ran step steps (outcome ∷ outcomes) count skipped none = cc

nothing_told : (before after entries : List Told) → after ≡ before ++ entries → after ≡ before → entries ≡ []
nothing_told before after [] told same = refl
nothing_told before after (entry ∷ entries) told same =
    absurd (omega (arith, ap length told, ap length same, length-append before (entry ∷ entries)))

-- a run of some steps whose starts weren't refused tells something
tells : (steps : List StepPlan) (turns : ℕ) (before after : List Told) (refused : Bool) (report : Report) → 0 < length steps
    → IsRun steps turns before after refused report → refused ≡ false → after ≢ before
tells [] turns before after refused report some run accepts same = omega (arith, some)
tells (step ∷ steps) turns before after refused report some run accepts same =
    some_ran step steps report.outcomes run.count (run.skipped 0 some).0
    (run.outcomes ∙ ap (λ entries. told_outcomes entries refused) (nothing_told before after run.entries run.told same) ∙ ap (told_outcomes []) accepts)

pub run_tells : (result : Result Report AllocError) (steps : List StepPlan) (turns : ℕ) (before after : List Told) (refused : Bool) → 0 < length steps
    → IfOk result (IsRun steps turns before after refused) → OnOk result (refused ≡ false → after ≢ before)
run_tells (Ok report) steps turns before after refused some run = tells steps turns before after refused report some run
run_tells (Err e) steps turns before after refused some run = tt

-- where one outcome begins what ran, it is the only one
only_ran : (outcomes rest : List Results) (o : Results) → length outcomes ≡ 1 → ran outcomes ≡ o ∷ rest → outcomes ≡ o ∷ []
only_ran [] rest o count h = absurd (omega (arith, count))
only_ran (Skipped ∷ []) rest o count h = cc
only_ran (outcome ∷ []) rest o count h = cc
only_ran (outcome ∷ other ∷ outcomes) rest o count h = absurd (omega (arith, count))

-- a failure that the port tells of a build's only step is its outcome
fails : (steps : List StepPlan) (turns : ℕ) (before after : List Told) (refused : Bool) (report : Report) → length steps ≡ 1
    → IsRun steps turns before after refused report → (entry : Told) → after ≡ before ++ entry ∷ [] → entry.ended ≡ Some Failure → report.outcomes ≡ Failure ∷ []
fails steps turns before after refused report one run entry told failed =
    only_ran report.outcomes (cond refused (Retry ∷ []) []) Failure (run.count ∙ one)
    (run.outcomes ∙ ap (λ entries. told_outcomes entries refused) (append_cancel_left before run.entries (entry ∷ []) (sym run.told ∙ told))
    ∙ ap (λ (ended : Option Results). option_map_or counted ended Exception ∷ cond refused (Retry ∷ []) []) failed)

-- and it is the build's result, where it is to fail that
failed_build : (steps : List StepPlan) (step : StepPlan) (outcomes : List Results) → steps ≡ step ∷ [] → step.flunk_on_failure ≡ true → outcomes ≡ Failure ∷ []
    → result_of steps outcomes ≡ Failure
failed_build steps step outcomes one flunks failed =
    ap (λ (ss : List StepPlan). result_of ss outcomes) one ∙ ap (λ (os : List Results). result_of (step ∷ []) os) failed
    ∙ ap (λ (b : Bool). worse Success (if b then Failure else Success)) flunks

-- of a build's only step, which is to fail it
abbrev FailsBuild : List StepPlan → Type 0
FailsBuild steps = (step : StepPlan) × (steps ≡ step ∷ []) × (step.flunk_on_failure ≡ true)

pub run_fails : (result : Result Report AllocError) (steps : List StepPlan) (turns : ℕ) (before after : List Told) (refused : Bool) → FailsBuild steps
    → IfOk result (IsRun steps turns before after refused)
    → IfOk result (λ r. (entry : Told) → after ≡ before ++ entry ∷ [] → entry.ended ≡ Some Failure → (r.outcomes ≡ Failure ∷ []) × (r.result ≡ Failure))
run_fails (Ok report) steps turns before after refused (step, one, flunks) run = λ entry told ended.
    let failed = fails steps turns before after refused report (ap length one) run entry told ended in
    (failed, run.result ∙ failed_build steps step report.outcomes one flunks failed)
run_fails (Err e) steps turns before after refused only run = tt

-- What a run of a build's steps reports, by what its port told.
use Rattle.std.specs.Prelude.{◌≡◌, ◌↔◌, ℕ, ◌<◌, Bool, true, false, not, if◌then◌else◌, List, [], ◌∷◌, ◌++◌, length, take, map, filter, slice_get, All, Some, None}
use Rattle.std.specs.Option.{option_map_or}
use Rattle.bm_session.specs.declared.results.Results.{Results}
use Rattle.bm_session.specs.declared.results.Results.TheVariants.{Skipped, Exception, Retry}
use Rattle.bm_board.specs.declared.plan.StepPlan.{StepPlan}
use Rattle.bm_board.specs.Steps.{is_over, is_halted, runs, result_of}
use Rattle.bm_runner.specs.declared.port.Told.{Told}
use Rattle.bm_runner.specs.declared.run.Report.{Report}

abbrev pub is_skipped : Results → Bool
is_skipped Skipped = true
is_skipped outcome = false

-- the outcome of a step whose command ended so: a command isn't skipped
abbrev pub counted : Results → Results
counted Skipped = Exception
counted outcome = outcome

-- the outcome of a step by its entry: EXCEPTION where it has no end
abbrev pub outcome_of : Told → Results
outcome_of entry = option_map_or counted entry.ended Exception

-- the step at the place runs after the outcomes before it
abbrev pub runs_at : List StepPlan → List Results → ℕ → Bool
runs_at steps outcomes i =
    option_map_or (runs (is_over (take i outcomes)) (is_halted steps (take i outcomes)))
    (slice_get steps i) false

-- the outcomes of the steps that ran, in their order
abbrev pub ran : List Results → List Results
ran outcomes = filter (λ outcome. not (is_skipped outcome)) outcomes

-- the outcomes that the entries tell, and RETRY for the step whose start was refused
abbrev pub told_outcomes : List Told → Bool → List Results
told_outcomes entries refused = map outcome_of entries ++ (if refused then Retry ∷ [] else [])

-- an entry has its end, or was asked for `turns` times
abbrev pub IsWaitedFor : ℕ → Told → Type 0
IsWaitedFor turns entry = entry.ended ≡ None → entry.polls ≡ turns

-- A run of the steps. There is one outcome for each step, SKIPPED just for those that don't run.
-- The port told an entry for each step that ran, in order, but for the last where its start was
-- refused. The report's result is the build's.
pub record IsRun (steps : List StepPlan) (turns : ℕ) (before after : List Told) (refused : Bool)
    (report : Report) : Type 0 where
  pub entries : List Told
  pub told : after ≡ before ++ entries
  pub count : length report.outcomes ≡ length steps
  pub skipped : (i : ℕ) → i < length steps → (slice_get report.outcomes i ≡ Some Skipped)
      ↔ (runs_at steps report.outcomes i ≡ false)
  pub outcomes : ran report.outcomes ≡ told_outcomes entries refused
  pub waited : All (IsWaitedFor turns) entries
  pub result : report.result ≡ result_of steps report.outcomes

-- a step that was run: refused with RETRY, or told of by one entry
pub record IsStepRun (turns : ℕ) (before after : List Told) (refused : Bool)
    (outcome : Results) : Type 0 where
  pub entries : List Told
  pub told : after ≡ before ++ entries
  pub outcomes : outcome ∷ [] ≡ told_outcomes entries refused
  pub waited : All (IsWaitedFor turns) entries

-- Which step of a build is next, and the result of a build (Buildbot manual, "Build Steps" and
-- "Results").
use Rattle.std.specs.Prelude.{ℕ, ◌+◌, Bool, true, false, not, ◌&&◌, ◌||◌, nat_lt, if◌then◌else◌, List, length, drop, fold, position, Option}
use Rattle.std.specs.List.{list_any, zip}
use Rattle.std.specs.Option.{option_map_or}
use Rattle.bm_session.specs.declared.results.Results.{Results}
use Rattle.bm_session.specs.declared.results.Results.TheVariants.{Success, Warnings, Failure, Skipped, Exception, Retry, Cancelled}
use Rattle.bm_board.specs.declared.plan.StepPlan.{StepPlan}
use Rattle.bm_board.specs.declared.steps.Next.{Next}
use Rattle.bm_board.specs.declared.steps.Next.TheVariants.{Step, Ended}

-- the place of an outcome from best to worst
abbrev pub rank : Results → ℕ
rank Skipped = 0
rank Success = 1
rank Warnings = 2
rank Failure = 3
rank Exception = 4
rank Retry = 5
rank Cancelled = 6

-- the worse of two outcomes
abbrev pub worse : Results → Results → Results
worse a b = if nat_lt (rank a) (rank b) then b else a

-- what a step with this outcome adds to the build's result
abbrev pub contribution : StepPlan → Results → Results
contribution step Failure = if step.flunk_on_failure then Failure else Success
contribution step outcome = outcome

-- the worst of SUCCESS and what each step adds
abbrev pub result_of : List StepPlan → List Results → Results
result_of steps outcomes =
    fold (λ worst p. worse worst (contribution p.0 p.1)) Success (zip steps outcomes)

-- after this outcome of the step only steps that always run are run
abbrev pub halts : StepPlan → Results → Bool
halts step Failure = step.halt_on_failure
halts step Exception = true
halts step Cancelled = true
halts step outcome = false

-- a step halted the build
abbrev pub is_halted : List StepPlan → List Results → Bool
is_halted steps outcomes = list_any (λ p. halts p.0 p.1) (zip steps outcomes)

-- after this outcome no step runs
abbrev pub is_retry : Results → Bool
is_retry Retry = true
is_retry outcome = false

-- a step ended RETRY
abbrev pub is_over : List Results → Bool
is_over outcomes = list_any is_retry outcomes

-- the step runs in a build that is over, or halted, or neither
abbrev pub runs : Bool → Bool → StepPlan → Bool
runs over halted step = not over && (not halted || step.always_run)

-- how many steps after these outcomes are skipped before the next one runs, where one does
abbrev pub skipped_after : List StepPlan → List Results → Option ℕ
skipped_after steps outcomes =
    position (runs (is_over outcomes) (is_halted steps outcomes)) (drop (length outcomes) steps)

-- what follows after these outcomes of the first steps, those of skipped steps too
abbrev pub next_of : List StepPlan → List Results → Next
next_of steps outcomes =
    option_map_or (λ skipped. Step (length outcomes + skipped)) (skipped_after steps outcomes)
    (Ended (result_of steps outcomes))

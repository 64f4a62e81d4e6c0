-- Which place a step has among those of its build.
use Rattle.std.specs.Prelude.{ℕ, ◌+◌, Bool, not, if◌then◌else◌, List, drop, position, Option}
use Rattle.std.specs.Option.{option_map}
use Rattle.bm_board.specs.declared.plan.StepPlan.{StepPlan}

-- a step always runs, or doesn't
abbrev pub is_alike : Bool → StepPlan → Bool
is_alike always_run step = if always_run then step.always_run else not step.always_run

-- behind so many steps, the first place of one that always runs, or that doesn't
abbrev pub place_of : List StepPlan → ℕ → Bool → Option ℕ
place_of steps behind always_run =
    option_map (λ after. behind + after) (position (is_alike always_run) (drop behind steps))

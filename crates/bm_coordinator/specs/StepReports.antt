-- Which step of its build the thread of a build tells of.
use Rattle.std.specs.Prelude.{◌≡◌, ℕ, ◌+◌, ◌-◌, ◌^◌, List, Option, Some, None, min, IfSome}
use Rattle.bm_board.specs.declared.plan.StepPlan.{StepPlan}
use Rattle.bm_runner.specs.StepPlaces.{place_of}
use Rattle.bm_coordinator.specs.declared.build_thread.ReachedStep.{ReachedStep}

-- the place that was found, or the last one
abbrev pub place_after : ℕ → Option ℕ → ℕ
place_after last (Some place) = place
place_after last None = last

-- so many steps are over or left out
abbrev pub behind_after : ℕ → Option ℕ → ℕ
behind_after behind (Some place) = min (place + 1) (2 ^ 64 - 1)
behind_after behind None = behind

-- The step becomes the last one that was reached. Its name is none but its own, where there is
-- memory for it.
abbrev pub Reaches : List StepPlan → StepPlan → ReachedStep → ReachedStep → Type 0
Reaches steps step old new =
    (new.place ≡ place_after old.place (place_of steps old.behind step.always_run))
    × (new.behind ≡ behind_after old.behind (place_of steps old.behind step.always_run))
    × IfSome new.name (λ name. name ≡ step.name)

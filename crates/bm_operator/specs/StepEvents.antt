-- What an operator is told of what happens to a step.
use Rattle.std.specs.Prelude.{ℕ, List}
use Rattle.bm_operator.specs.declared.log_id.LogId.{LogId}
use Rattle.bm_operator.specs.declared.step_at.StepAt.{StepAt}
use Rattle.bm_operator.specs.declared.step_event.StepEvent.{StepEvent}
use Rattle.bm_operator.specs.declared.step_event.StepEvent.TheVariants.{Started, Refused, Stopped, Failed, Ended}
use Rattle.bm_operator.specs.Remark.{log_number, step_ended, step_failed, step_refused, step_started, step_stopped}
use Rattle.bm_operator.specs.Told.{Told}

-- the log of a command on the lane at this place among so many
abbrev pub log_of : ℕ → ℕ → ℕ → LogId
log_of lane lanes command = record { command = command; lane = lane; lanes = lanes }

-- what is told where this happened to this step of this build, by the worker, the step and what the
-- worker said last
abbrev pub event_told : ℕ → ℕ → ℕ → List ℕ → StepAt → List ℕ → StepEvent → Told
event_told build lane lanes worker step said (Started command) =
    step_started build (log_number (log_of lane lanes command)) step
event_told build lane lanes worker step said (Refused why) = step_refused build why step
event_told build lane lanes worker step said (Stopped command limit) =
    step_stopped build (log_number (log_of lane lanes command)) limit step
event_told build lane lanes worker step said (Failed command) =
    step_failed build (log_number (log_of lane lanes command)) worker said step
event_told build lane lanes worker step said (Ended command result) =
    step_ended build (log_number (log_of lane lanes command)) result step

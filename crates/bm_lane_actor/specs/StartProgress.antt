-- How far a build has come with the command that it wants to have started.
use Rattle.std.specs.Prelude.{ℕ, false, if◌then◌else◌, Option, Some, None, Result, Ok, Err}
use Rattle.bm_latent.specs.StartTries.{is_given_up, tries_after}
use Rattle.bm_operator.specs.declared.reasons.StartRefusal.{StartRefusal}
use Rattle.bm_operator.specs.declared.reasons.StartRefusal.TheVariants as why
use Rattle.bm_lane_actor.specs.declared.order_outcome.OrderOutcome.{OrderOutcome}
use Rattle.bm_lane_actor.specs.declared.order_outcome.OrderOutcome.TheVariants as outcome
use Rattle.bm_lane_actor.specs.declared.start_progress.StartStep.{StartStep}
use Rattle.bm_lane_actor.specs.declared.start_progress.StartStep.TheVariants as step
use Rattle.bm_lane_actor.specs.declared.start_progress.StartStage.{StartStage}
use Rattle.bm_lane_actor.specs.declared.start_progress.StartStage.TheVariants as stage

-- why a step isn't started whose order came to this, and isn't tried again
abbrev pub start_refusal : OrderOutcome → StartRefusal
start_refusal outcome.Cancelled = why.Cancelled
start_refusal outcome.Full = why.Full
start_refusal outcome.TooLong = why.TooLong
start_refusal _ = why.Lost

-- what a build does by the answer to an order: none where memory is wanting
abbrev pub start_step : Option OrderOutcome → StartStep
start_step (Some (outcome.Started k)) = step.Started k
start_step (Some outcome.Later) = step.AskAgain
start_step (Some outcome.Short) = step.AskShort
start_step (Some came) = step.Refused (start_refusal came)
start_step None = step.Refused why.Memory

-- where memory is wanting it is asked again, for so many ticks
abbrev pub bounded : ℕ → StartStep → StartStep
bounded tries step.AskShort = if is_given_up tries false then step.Refused why.Memory else step.AskShort
bounded tries s = s

-- for how many ticks memory was wanting, once this was done
abbrev pub tries_in : ℕ → StartStep → ℕ
tries_in tries step.AskShort = tries_after tries
tries_in tries s = tries

-- after one order more: the first answer that isn't to try it later settles it
abbrev pub after_step : StartStage → StartStep → StartStage
after_step stage.Asking step.AskAgain = stage.Asking
after_step stage.Asking step.AskShort = stage.Asking
after_step stage.Asking (step.Started k) = stage.Started k
after_step stage.Asking (step.Refused e) = stage.Refused e
after_step _ _ = stage.AskedTwice

-- a start that came to this was settled by the last answer, and by no answer before
abbrev pub settled : Result ℕ StartRefusal → StartStage
settled (Ok k) = stage.Started k
settled (Err e) = stage.Refused e

-- why the command isn't started, if it was refused by an answer or before all orders
abbrev pub refused_in : StartStage → Option StartRefusal
refused_in (stage.Refused e) = Some e
refused_in (stage.Unasked e) = Some e
refused_in _ = None

-- What a build does with its steps, one after the other.
use Rattle.std.specs.Prelude.{ℕ, Bool, true, false, ◌&&◌, not, if◌then◌else◌, Option, None, is_some}
use Rattle.bm_session.specs.declared.results.Results.{Results}
use Rattle.bm_session.specs.declared.results.Results.TheVariants.{Retry, Exception, Cancelled}
use Rattle.bm_operator.specs.declared.reasons.StartRefusal.{StartRefusal}
use Rattle.bm_operator.specs.declared.reasons.StartRefusal.TheVariants as why
use Rattle.bm_operator.specs.declared.reasons.StepLimit.{StepLimit}
use Rattle.bm_runner.specs.declared.port.Polled.{Polled}
use Rattle.bm_runner.specs.declared.port.Polled.TheVariants.{Running, Cancel, Ended}
use Rattle.bm_lane_actor.specs.declared.cancel_policy.CancelInput.TheVariants as input
use Rattle.bm_lane_actor.specs.declared.cancel_policy.CancelActs.{CancelActs}
use Rattle.bm_lane_actor.specs.declared.step_machine.StepInput.{StepInput}
use Rattle.bm_lane_actor.specs.declared.step_machine.StepInput.TheVariants.{Next, Started, Refused, Seen, Ticked, Interrupt, Ordered}
use Rattle.bm_lane_actor.specs.declared.step_machine.StepActs.{StepActs}
use Rattle.bm_lane_actor.specs.CancelPolicy.{CancelView, cancel_acts, cancel_after, does_nothing, is_left_out, uncancelled}
use Rattle.bm_lane_actor.specs.StepMeter.{MeterView, fresh, given_up_result, is_given_up, meter_after, outcome_of, reached_at}

-- What is done about cancels. The limits of the last step that was started. Whether the last step
-- has no command, since its build was cancelled before it was started.
pub record StepView : Type 0 where
  pub cancels : CancelView
  pub meter : MeterView
  pub none : Bool

abbrev pub unstarted : StepView
unstarted = record { cancels = uncancelled; meter = fresh 0 0 0; none = false }

-- a command ended so as its session was given up
abbrev pub is_lost : Results → Bool
is_lost Retry = true
is_lost result = false

abbrev pub is_exception : Results → Bool
is_exception Exception = true
is_exception result = false

abbrev pub is_by_cancel : Results → Bool
is_by_cancel Cancelled = true
is_by_cancel result = false

-- a command is seen so whose build was cancelled
abbrev pub is_cancel : Polled → Bool
is_cancel Cancel = true
is_cancel said = false

abbrev pub is_cancelled : StartRefusal → Bool
is_cancelled why.Cancelled = true
is_cancelled e = false

-- a tick of its step is over, but for one that has ended
abbrev pub ticked : MeterView → ℕ → Polled → MeterView
ticked m bytes (Ended result) = m
ticked m bytes seen = meter_after m bytes (is_cancel seen)

-- How a step does whose command is seen so, by its meter now. One that has reached a limit ends
-- EXCEPTION. One that was interrupted, and whose end is awaited for too long, ends by what it was
-- interrupted for.
abbrev pub limited : MeterView → Polled → Polled
limited m (Ended result) = Ended (outcome_of m result)
limited m seen = if is_given_up m then Ended (given_up_result m) else seen

-- how it does a tick later, when its updates have carried so many bytes
abbrev pub at_limits : MeterView → ℕ → Polled → Polled
at_limits m bytes seen = limited (ticked m bytes seen) seen

-- the limit that a command has just reached which is seen so
abbrev pub limit_seen : MeterView → ℕ → Polled → Option StepLimit
limit_seen m bytes (Ended result) = None
limit_seen m bytes seen = reached_at m bytes

-- the policy of cancels hears how a command is seen to do, and whether it has reached a limit
abbrev pub heard : Polled → Bool → CancelView → CancelView
heard (Ended result) over c = c
heard seen over c = cancel_after (input.Runs (is_cancel seen) over) c

abbrev pub heard_acts : Polled → Bool → CancelView → CancelActs
heard_acts (Ended result) over c = does_nothing
heard_acts seen over c = cancel_acts (input.Runs (is_cancel seen) over) c

-- then it hears that the step has ended, if it has
abbrev pub ended : Polled → CancelView → CancelView
ended (Ended result) c = cancel_after (input.Ended (is_by_cancel result)) c
ended said c = c

abbrev pub uses_up : Polled → Bool
uses_up (Ended result) = is_by_cancel result
uses_up said = false

-- a step that ended so without a limit has failed, and its end by a loss is told behind that loss
abbrev pub is_failure : MeterView → Polled → Bool
is_failure m (Ended result) = is_exception result && not (is_some m.reached)
is_failure m said = false

abbrev pub is_loss : Polled → Bool
is_loss (Ended result) = is_lost result
is_loss said = false

-- it says this, and no more is to be done than about cancels
abbrev pub only_says : Polled → CancelActs → StepActs
only_says said acts =
    record { cancel = acts; limit = None; said = said; is_failure = false; is_loss = false }

-- after a tick, or the command's end
abbrev pub tick_acts : Polled → ℕ → StepView → StepActs
tick_acts seen bytes s =
    record {
      cancel =
          record (heard_acts seen (is_some (limit_seen s.meter bytes seen)) s.cancels) {
            uses_up = uses_up (at_limits s.meter bytes seen);
          };
      limit = limit_seen s.meter bytes seen;
      said = at_limits s.meter bytes seen;
      is_failure = is_failure (ticked s.meter bytes seen) (at_limits s.meter bytes seen);
      is_loss = is_loss (at_limits s.meter bytes seen);
    }

abbrev pub tick_after : Polled → ℕ → StepView → StepView
tick_after seen bytes s =
    record {
      cancels =
          ended (at_limits s.meter bytes seen)
          (heard seen (is_some (limit_seen s.meter bytes seen)) s.cancels);
      meter = ticked s.meter bytes seen;
      none = s.none;
    }

-- what is to be done after an input
abbrev pub step_acts : StepInput → StepView → StepActs
step_acts (Next always) s = only_says Running does_nothing
step_acts (Started max_bytes timeout_ticks silent_ticks set) s =
    only_says Running (cancel_acts (input.Started set) s.cancels)
step_acts (Refused e) s =
    only_says Running (if is_cancelled e then cancel_acts input.Refused s.cancels else does_nothing)
step_acts (Seen said) s = only_says said (heard_acts said false s.cancels)
step_acts (Ticked said bytes) s = tick_acts said bytes s
step_acts Interrupt s = only_says Running (cancel_acts input.Asked s.cancels)
step_acts (Ordered kept) s = only_says Running does_nothing

-- where the build then stands
abbrev pub step_after : StepInput → StepView → StepView
step_after (Next always) s =
    record {
      cancels =
          if is_left_out s.cancels.held always then cancel_after input.LeftOut s.cancels else s.cancels;
      meter = s.meter;
      none = is_left_out s.cancels.held always;
    }
step_after (Started max_bytes timeout_ticks silent_ticks set) s =
    record {
      cancels = cancel_after (input.Started set) s.cancels;
      meter = fresh max_bytes timeout_ticks silent_ticks;
      none = false;
    }
step_after (Refused e) s =
    record {
      cancels = if is_cancelled e then cancel_after input.Refused s.cancels else s.cancels;
      meter = s.meter;
      none = is_cancelled e;
    }
step_after (Seen said) s = record s { cancels = heard said false s.cancels }
step_after (Ticked said bytes) s = tick_after said bytes s
step_after Interrupt s = record s { cancels = cancel_after input.Asked s.cancels }
step_after (Ordered kept) s = record s { cancels = cancel_after (input.Ordered kept) s.cancels }

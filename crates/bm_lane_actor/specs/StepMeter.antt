-- The limits of a step.
use Rattle.std.specs.Prelude.{ℕ, ◌+◌, ◌-◌, ◌^◌, min, nat_lt, nat_le, Bool, false, ◌&&◌, ◌||◌, ◌==◌, if◌then◌else◌, Option, Some, None, is_some}
use Rattle.bm_session.specs.declared.results.Results.{Results}
use Rattle.bm_session.specs.declared.results.Results.TheVariants.{Retry, Exception, Cancelled}
use Rattle.bm_operator.specs.declared.reasons.StepLimit.{StepLimit}
use Rattle.bm_operator.specs.declared.reasons.StepLimit.TheVariants.{Bytes, Ticks, Silence}

-- The limits of a step, of which 0 is none, and which of them it has reached. The ticks until it
-- reached one, or since. How many bytes its updates had carried, and for how many ticks they
-- carried nothing. Then the ticks since a cancel of its build was seen.
pub record MeterView : Type 0 where
  pub max_bytes : ℕ
  pub timeout_ticks : ℕ
  pub silent_ticks : ℕ
  pub ticks : ℕ
  pub bytes : ℕ
  pub silence : ℕ
  pub reached : Option StepLimit
  pub cancelled : Option ℕ

-- a command that was just started
abbrev pub fresh : ℕ → ℕ → ℕ → MeterView
fresh max_bytes timeout_ticks silent_ticks =
    record {
      max_bytes = max_bytes;
      timeout_ticks = timeout_ticks;
      silent_ticks = silent_ticks;
      ticks = 0;
      bytes = 0;
      silence = 0;
      reached = None;
      cancelled = None;
    }

-- one tick more, up to 2^32-1
abbrev pub later : MeterView → ℕ
later m = min (m.ticks + 1) (2 ^ 32 - 1)

-- for how many ticks its updates carried nothing, where they have carried so many bytes by now
abbrev pub silence_after : MeterView → ℕ → ℕ
silence_after m bytes = if bytes == m.bytes then min (m.silence + 1) (2 ^ 32 - 1) else 0

-- the limit that a command has reached whose updates have carried so many bytes
abbrev pub limit_at : MeterView → ℕ → Option StepLimit
limit_at m bytes =
    if nat_lt 0 m.max_bytes && nat_lt m.max_bytes bytes then Some Bytes
    else (if nat_lt 0 m.timeout_ticks && nat_le m.timeout_ticks (later m) then Some Ticks
    else (if nat_lt 0 m.silent_ticks && nat_le m.silent_ticks (silence_after m bytes)
    then Some Silence else None))

-- the limit that it reaches now, for the first time
abbrev pub reached_at : MeterView → ℕ → Option StepLimit
reached_at m bytes = if is_some m.reached then None else limit_at m bytes

-- the ticks since a cancel, a tick later: they begin with the tick in which it is seen
abbrev pub cancelled_after : Option ℕ → Bool → Option ℕ
cancelled_after (Some ticks) cancelled = Some (min (ticks + 1) (2 ^ 32 - 1))
cancelled_after None cancelled = if cancelled then Some 0 else None

-- the meter a tick later: ticks count anew once a limit is reached
abbrev pub meter_after : MeterView → ℕ → Bool → MeterView
meter_after m bytes cancelled =
    record {
      max_bytes = m.max_bytes;
      timeout_ticks = m.timeout_ticks;
      silent_ticks = m.silent_ticks;
      bytes = bytes;
      silence = silence_after m bytes;
      ticks = if is_some (reached_at m bytes) then 0 else later m;
      reached = if is_some m.reached then m.reached else limit_at m bytes;
      cancelled = cancelled_after m.cancelled cancelled;
    }

-- a cancel was seen 1,000 ticks ago
abbrev pub is_late : Option ℕ → Bool
is_late (Some ticks) = nat_le 1000 ticks
is_late None = false

-- 1,000 ticks after a cancel, or after a limit was reached, nobody waits for the command's end any
-- more, whatever became of its worker
abbrev pub is_given_up : MeterView → Bool
is_given_up m = is_late m.cancelled || (is_some m.reached && nat_le 1000 m.ticks)

-- how a step then ends: by its limit, where it reached one
abbrev pub given_up_result : MeterView → Results
given_up_result m = if is_some m.reached then Exception else Cancelled

-- how a step ends whose command ended so
abbrev pub outcome_of : MeterView → Results → Results
outcome_of m Retry = Retry
outcome_of m ended = if is_some m.reached then Exception else ended

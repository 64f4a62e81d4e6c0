-- Ticks as a clock shows them.
use Rattle.std.specs.Prelude.{ℕ, ◌+◌, ◌-◌, ◌*◌, ◌/◌, min, Option, Some, None}

-- how long a tick is, and the moment up to which ticks were counted
pub record CounterView : Type 0 where
  pub tick : ℕ
  pub last : ℕ

-- how many ticks have ended by now that were not counted
abbrev pub ended : CounterView → ℕ → ℕ
ended p now = (now - p.last) / p.tick

-- what is left once these were counted: what has passed of the next one counts later
abbrev pub after_count : CounterView → ℕ → CounterView
after_count p now = record { tick = p.tick; last = p.last + ended p now * p.tick }

-- how many ticks are told of: at most a hundred, and one where the clock failed
abbrev pub told_at : CounterView → Option ℕ → ℕ
told_at p (Some now) = min (ended p now) 100
told_at p None = 1

-- what is left once these were told of
abbrev pub after_telling : CounterView → Option ℕ → CounterView
after_telling p (Some now) = after_count p now
after_telling p None = p

-- For how long a start is tried that the system refuses.
use Rattle.std.specs.Prelude.{ℕ, ◌+◌, ◌-◌, ◌^◌, Bool, min, nat_le, ◌||◌}

-- so many ticks are tried at most: a minute
abbrev pub most_ticks : ℕ
most_ticks = 6000

-- for how many ticks it was tried, a tick later
abbrev pub tries_after : ℕ → ℕ
tries_after ticks = min (ticks + 1) (2 ^ 32 - 1)

-- it isn't tried again: it was for a minute, or it is cancelled
abbrev pub is_given_up : ℕ → Bool → Bool
is_given_up ticks is_cancelled = is_cancelled || nat_le most_ticks ticks

-- How far the thread that reads the input may be ahead of the coordinator.
use Rattle.std.specs.Prelude.{ℕ, Bool, nat_lt}

-- it waits while more than so many lines lie before the coordinator
abbrev pub is_ahead : ℕ → Bool
is_ahead n = nat_lt 16 n

-- For how many ticks the coordinator waits, once no build is left.
use Rattle.std.specs.Prelude.{ℕ, Bool, true, false, ◌-◌, ◌==◌}

-- so many ticks are left after one more
abbrev pub left_after : ℕ → ℕ
left_after n = n - 1

-- it is over once it isn't awaited any more, or no tick is left
abbrev pub is_over : ℕ → Bool → Bool
is_over n false = true
is_over n true = n == 0

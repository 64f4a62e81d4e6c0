-- The lines of a build master's standard input.
use Rattle.std.specs.Prelude.{ℕ, List, take, drop, codes, bytes_eq, Option, None, if◌then◌else◌}
use Rattle.bm_decimal.specs.Decimals.{number_of}

-- the build that the line cancels: `cancel` and a number, with one space between
abbrev pub cancelled : List ℕ → Option ℕ
cancelled line = if bytes_eq (take 7 line) (codes "cancel ") then number_of (drop 7 line) else None

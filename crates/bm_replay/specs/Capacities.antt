-- Which capacity a word names.
use Rattle.std.specs.Prelude.{ℕ, nat_le, ◌&&◌, List, Option, Some, None, if◌then◌else◌}
use Rattle.bm_decimal.specs.Decimals.{number_of}

-- a number from 1 to 65,536
abbrev pub within : Option ℕ → Option ℕ
within None = None
within (Some items) = if nat_le 1 items && nat_le items 65536 then Some items else None

abbrev pub capacity_of : List ℕ → Option ℕ
capacity_of word = within (number_of word)

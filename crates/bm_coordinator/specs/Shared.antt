-- What is found in two lists by one number.
use Rattle.std.specs.Prelude.{ℕ, List, slice_get, Option}
use Rattle.std.specs.Option.{option_zip}

-- the items of this number in both lists, where both have one
abbrev pub both_at : {A B : Type 0} → ℕ → List A → List B → Option (A × B)
both_at number all others = option_zip (slice_get all number) (slice_get others number)

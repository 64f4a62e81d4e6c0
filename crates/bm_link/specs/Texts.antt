-- How long the texts may be that a message carries.
use Rattle.std.specs.Prelude.{◌≤◌, ℕ, List, length, sum_by}

-- they are few enough, and short enough together: with all that stands around them they fit into a
-- frame
abbrev pub AreShort : List (List ℕ) → Type 0
AreShort texts = (length texts ≤ 10000) × (sum_by length texts ≤ 900000)

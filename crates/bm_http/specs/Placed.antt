-- Viewers at places, while no look has them.
use Rattle.std.specs.Prelude.{ℕ, ◌≡◌, ◌≤◌, ◌⊎◌, List, Option, Some, None, length, map, slice_get}
use Rattle.bm_lane.specs.Ends.{Watched}

-- each viewer lies at the place of its lane
abbrev pub IsPlaced : List (Option Watched) → Type 0
IsPlaced places = (lane : ℕ) (w : Watched) → slice_get places lane ≡ Some (Some w) → w.lane ≡ lane

-- a look has the viewer of some lane
abbrev pub IsAway : List (Option Watched) → Type 0
IsAway places = (lane : ℕ) × (slice_get places lane ≡ Some None)

-- no viewer lies at the lane's place: a look has it, or there is no such lane
abbrev pub IsMissing : List (Option Watched) → ℕ → Type 0
IsMissing places lane = (slice_get places lane ≡ Some None) ⊎ (length places ≤ lane)

-- each is of the lane whose number is its place in the list
abbrev pub InOrder : List Watched → Type 0
InOrder viewers = IsPlaced (map Some viewers)

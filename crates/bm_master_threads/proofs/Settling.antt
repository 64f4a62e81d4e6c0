-- How many lanes are settled.
use Rattle.std.proofs.Common.{◌≡◌, ap, refl, List, [], ◌∷◌, length, suc}
use Rattle.std.specs.Prelude.{Result}
use Rattle.bm_lane.specs.Ends.{Heard}
use Rattle.bm_lanes.specs.Totals.{AreTotals}
use Rattle.bm_lanes.specs.declared.all_ends.LaneTotals.{LaneTotals}
use Rattle.bm_lanes.specs.declared.all_ends.SettleError.{SettleError}

-- as many answers as reader's ends
pub as_many : (readers : List Heard) (all : List (Result LaneTotals SettleError)) → AreTotals readers all → length readers ≡ length all
as_many [] [] are = refl
as_many (r ∷ rs) (had ∷ more) (one, are) = ap suc (as_many rs more are)
as_many [] (had ∷ more) are = absurd are
as_many (r ∷ rs) [] are = absurd are

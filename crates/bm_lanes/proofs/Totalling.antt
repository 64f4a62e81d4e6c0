-- One answer more at the end is the next lane's.
use Rattle.std.proofs.Common.{◌≡◌, List, [], ◌∷◌, ◌++◌, Result}
use Rattle.std.specs.Prelude.{IfOk}
use Rattle.bm_lane.specs.Ends.{Heard}
use Rattle.bm_lanes.specs.declared.all_ends.LaneTotals.{LaneTotals}
use Rattle.bm_lanes.specs.declared.all_ends.SettleError.{SettleError}
use Rattle.bm_lanes.specs.Totals.{totals, AreTotals}

pub totals_pushed : (rs : List Heard) (all : List (Result LaneTotals SettleError)) (r : Heard) (had : Result LaneTotals SettleError)
    → AreTotals rs all → IfOk had (λ t. t ≡ totals r.trace) → AreTotals (rs ++ r ∷ []) (all ++ had ∷ [])
totals_pushed [] [] r had before one = (one, tt)
totals_pushed [] (h ∷ hs) r had before one = elim before [ ]
totals_pushed (x ∷ xs) [] r had before one = elim before [ ]
totals_pushed (x ∷ xs) (h ∷ hs) r had before one = (before.0, totals_pushed xs hs r had before.1 one)

-- What the end of all lanes tells of each.
use Rattle.std.specs.Prelude.{◌≡◌, List, [], ◌∷◌, length, Result, IfOk}
use Rattle.bm_session.specs.Trace.{Trace}
use Rattle.bm_store.specs.Book.{logs, stdio_lines_in}
use Rattle.bm_lane.specs.Ends.{Heard}
use Rattle.bm_lanes.specs.declared.all_ends.LaneTotals.{LaneTotals}
use Rattle.bm_lanes.specs.declared.all_ends.SettleError.{SettleError}

-- how many commands a trace started, and how many lines their logs `stdio` have
abbrev pub totals : Trace → LaneTotals
totals t = record { commands = length (logs t); lines = stdio_lines_in (logs t) }

-- an answer for each reader's end, in order: the totals of its trace, or why there are none
abbrev pub AreTotals : List Heard → List (Result LaneTotals SettleError) → Type 0
AreTotals [] [] = Unit {0}
AreTotals [] (had ∷ more) = ⊥
AreTotals (r ∷ rs) [] = ⊥
AreTotals (r ∷ rs) (had ∷ more) = IfOk had (λ t. t ≡ totals r.trace) × AreTotals rs more

use Rattle.bm_lanes.specs.Totals.{AreTotals}
use Rattle.bm_lanes.proofs.all_ends.settle_all.Given as goal

abbrev pub invariant-loop-reader : goal.invariant-loop-reader
invariant-loop-reader g l = AreTotals l.yielded l.all.items

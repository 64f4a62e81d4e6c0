use Rattle.bm_lane.specs.Ends.{IsBack}
use Rattle.bm_lane.proofs.settling.drain_all.Given as goal

abbrev pub invariant-loop : goal.invariant-loop
invariant-loop g l = IsBack l.initial.writer l.writer

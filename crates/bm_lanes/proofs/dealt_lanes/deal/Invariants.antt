use Rattle.bm_lanes.specs.Dealt.{AreDealt}
use Rattle.bm_lanes.proofs.dealt_lanes.deal.Given as goal

abbrev pub invariant-loop-ends : goal.invariant-loop-ends
invariant-loop-ends g l = AreDealt l.yielded l.lanes

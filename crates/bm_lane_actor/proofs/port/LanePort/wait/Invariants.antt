use Rattle.bm_lane_actor.specs.Ports.{Waits}
use Rattle.bm_lane_actor.proofs.port.LanePort.wait.Given as goal

abbrev pub invariant-loop : goal.invariant-loop
invariant-loop g l = record {
  next : (goal.iterator-loop g).can_next l.iterator';
  finite : (goal.iterator-loop g).is_finite l.iterator';
  waits : Waits l.initial.self l.self;
}

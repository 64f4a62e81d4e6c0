use Rattle.std.proofs.Common.{rules}
use Rattle.bm_lane_actor.proofs.Waiting.{waits_nothing, waits_more, waits_on}
use Rattle.bm_lane_actor.proofs.port.LanePort.wait.Goals as goal

pub loop-init : goal.loop-init
loop-init g c = record { next = search rules; finite = search rules; waits = waits_nothing c.args.self.now }

pub returns-in-Ended : goal.returns-in-Ended
returns-in-Ended g c = waits_more c.args.self.now c.loop.self c.look-seen.new.self c.args.k c.look-seen.result c.loop.invariant.waits c.look-seen.ensures

pub loop-preserved-then-calls-self : goal.loop-preserved-then-calls-self
loop-preserved-then-calls-self g c = record {
  next = search rules;
  finite = search rules;
  waits = waits_on c.args.self.now c.look-seen.new.self c.orders.new.self c.look-seen.result c.orders.result c.orders.ensures (waits_more c.args.self.now c.loop.self c.look-seen.new.self c.args.k c.look-seen.result c.loop.invariant.waits c.look-seen.ensures);
}

pub loop-preserved : goal.loop-preserved
loop-preserved g c = record {
  next = search rules;
  finite = search rules;
  waits = waits_on c.args.self.now c.look-seen.new.self c.orders.new.self c.look-seen.result c.orders.result c.orders.ensures (waits_more c.args.self.now c.loop.self c.look-seen.new.self c.args.k c.look-seen.result c.loop.invariant.waits c.look-seen.ensures);
}

use Rattle.std.proofs.Common.{ap, length}
use Rattle.bm_lane_actor.proofs.Serving.{renews}
use Rattle.bm_lane_actor.proofs.link_keeping.take_up.Goals as goal

pub returns : goal.returns
returns g c = (
  c.attach-answer.new.self,
  c.attach-answer.ensures.up,
  c.settle.ensures.link,
  renews c.args.reader.now c.attach-answer.new.reader (length c.trace-events.result.now) c.args.timer.now c.renew.new.timer c.settle.new.timer
      (ap length c.trace-events.ensures.events) c.renew.ensures c.settle.ensures.timer,
)

use Rattle.std.proofs.Common.{rules, inr}
use Rattle.bm_lane_actor.proofs.lane_actor.LaneActor.goes_on.Goals as goal

pub returns : goal.returns
returns g c =
    inr (
      c.takes_signals.new.self,
      c.watch.new.self,
      c.send_stop.new.self,
      c.count_ticks.new.self,
      c.wait-next.new.self,
      c.wait-next.result,
      c.takes_signals.ensures,
      c.watch.ensures,
      c.send_stop.ensures,
      search rules,
      c.wait-next.ensures,
      c.takes-2.ensures,
    )

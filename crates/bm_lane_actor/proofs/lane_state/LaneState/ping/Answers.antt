use Rattle.std.proofs.Common.{refl, Some}
use Rattle.bm_lane_actor.proofs.Serving.{pinged}
use Rattle.bm_lane_actor.proofs.lane_state.LaneState.ping.Goals as goal

pub returns : goal.returns
returns g c =
    rw (← c.self.view_is) (
    pinged g.S.Write.contents
    (record { lane = c.self.inside.reader; resume_state = c.self.inside.resume_state; link = c.self.inside.link; timer = c.self.inside.timer })
    (record { lane = c.self.inside.reader; resume_state = c.self.inside.resume_state; link = Some c.ping.new.self; timer = c.self.inside.timer })
    c.in-Some.link c.ping.new.self c.ping.result
    c.in-Some.is c.ping.ensures.pinged refl
    )

use Rattle.std.proofs.Common.{refl, Some}
use Rattle.bm_lane_actor.proofs.Serving.{shut_down}
use Rattle.bm_lane_actor.proofs.lane_state.LaneState.shut_down.Goals as goal

pub returns-in-Some : goal.returns-in-Some
returns-in-Some g c =
    rw (← c.self.view_is) (
    shut_down g.S.Write.contents
    (record { lane = c.self.inside.reader; resume_state = c.self.inside.resume_state; link = c.self.inside.link; timer = c.self.inside.timer })
    (record { lane = c.self.inside.reader; resume_state = c.ask.new.resume_state; link = Some c.ask.new.self; timer = c.dismiss.new.self })
    c.in-Some.link c.ask.new.self c.ask.result
    c.in-Some.is c.ask.ensures.asked refl refl c.dismiss.ensures
    )

use Rattle.bm_lane_actor.proofs.Carrying.{given_up}
use Rattle.bm_lane_actor.proofs.Serving.{let_go}
use Rattle.bm_lane_actor.proofs.lane_state.LaneState.give_up.Goals as goal

pub invariant_of-self-2 : goal.invariant_of-self-2
invariant_of-self-2 g c =
    let view = let_go c.self.inside.reader c.down.new.self c.self.inside.link c.settle.new.link c.self.inside.timer c.settle.new.timer c.down.result
    c.self.invariant.0 c.self.invariant.1 c.down.ensures.heard c.settle.ensures.link c.settle.ensures.timer in (
      view.0,
      view.1,
      given_up c.self.inside.reader c.down.new.self c.self.inside.resume_state c.down.result c.self.invariant.2 c.down.ensures.heard,
    )

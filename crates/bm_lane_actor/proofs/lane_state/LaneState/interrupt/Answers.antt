use Rattle.std.proofs.Common.{rules}
use Rattle.bm_lane_actor.proofs.Serving.{interrupted}
use Rattle.bm_lane_actor.proofs.lane_state.LaneState.interrupt.Goals as goal
use Rattle.bm_lane_actor.proofs.Carrying.{interrupted as carries_interrupted}

pub invariant_of-self-2 : goal.invariant_of-self-2
invariant_of-self-2 g c = (
  search rules,
  search rules,
  carries_interrupted g.S.Write.contents c.args.command c.in-Some.link.stage c.in-Some.link c.interrupt-answer.new.self
      c.self.inside.reader c.interrupt-answer.new.reader c.self.inside.resume_state c.interrupt-answer.new.resume_state c.interrupt-answer.result
      c.self.invariant.2 c.interrupt-answer.ensures.interrupted,
)

pub returns : goal.returns
returns g c =
    rw (← c.self.view_is) (
    interrupted g.S.Write.contents c.args.command
    (record { lane = c.self.inside.reader; resume_state = c.self.inside.resume_state; link = c.self.inside.link; timer = c.self.inside.timer })
    (record { lane = c.interrupt-answer.new.reader; resume_state = c.interrupt-answer.new.resume_state; link = c.settle.new.link; timer = c.settle.new.timer })
    c.in-Some.link c.interrupt-answer.new.self c.interrupt-answer.result c.interrupt_outcome.result
    c.in-Some.is c.interrupt-answer.ensures.interrupted c.settle.ensures.link c.settle.ensures.timer (search rules)
    )

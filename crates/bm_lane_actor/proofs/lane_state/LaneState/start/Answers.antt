use Rattle.std.proofs.Common.{rules}
use Rattle.bm_lane_actor.proofs.Serving.{started}
use Rattle.bm_lane_actor.proofs.lane_state.LaneState.start.Goals as goal
use Rattle.bm_lane_actor.proofs.Carrying.{started as carries_started}

pub invariant_of-self-2 : goal.invariant_of-self-2
invariant_of-self-2 g c = (
  search rules,
  search rules,
  carries_started g.S.Write.contents c.args.argv.now c.in-Some.link.stage c.in-Some.link c.start-answer.new.self
      c.self.inside.reader c.start-answer.new.reader c.self.inside.resume_state c.start-answer.new.resume_state c.start-answer.result
      c.self.invariant.2 c.start-answer.ensures.started,
)

pub returns : goal.returns
returns g c =
    rw (← c.self.view_is) (
    started g.S.Write.contents c.args.argv.now
    (record { lane = c.self.inside.reader; resume_state = c.self.inside.resume_state; link = c.self.inside.link; timer = c.self.inside.timer })
    (record { lane = c.start-answer.new.reader; resume_state = c.start-answer.new.resume_state; link = c.settle.new.link; timer = c.settle.new.timer })
    c.in-Some.link c.start-answer.new.self c.start-answer.result c.start_outcome.result
    c.in-Some.is c.start-answer.ensures.started c.settle.ensures.link c.settle.ensures.timer (search rules)
    )

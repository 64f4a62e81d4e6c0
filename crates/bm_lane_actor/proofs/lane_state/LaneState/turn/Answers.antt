use Rattle.std.proofs.Common.{◌∙◌, sym, ap, rules}
use Rattle.bm_lane_actor.proofs.Serving.{turned}
use Rattle.bm_lane_actor.proofs.lane_state.LaneState.turn.Goals as goal
use Rattle.std.specs.Prelude.{is_some}
use Rattle.bm_lane_actor.proofs.Carrying.{turned as carries_turned}

pub invariant_of-self-2 : goal.invariant_of-self-2
invariant_of-self-2 g c = (
  search rules,
  search rules,
  carries_turned g.S.Read.remaining g.S.Write.contents c.in-Some.link.stage c.in-Some.link c.turn-answer.new.self
      c.self.inside.reader c.turn-answer.new.reader c.self.inside.resume_state c.turn-answer.new.resume_state c.turn-answer.result
      (sym c.self.invariant.0 ∙ ap is_some c.in-Some.is) c.settle.ensures.taken c.self.invariant.2 c.turn-answer.ensures.turned,
)

pub returns : goal.returns
returns g c =
    rw (← c.self.view_is) (
    turned g.S.Read.remaining g.S.Write.contents
    (record { lane = c.self.inside.reader; resume_state = c.self.inside.resume_state; link = c.self.inside.link; timer = c.self.inside.timer })
    (record { lane = c.turn-answer.new.reader; resume_state = c.turn-answer.new.resume_state; link = c.settle.new.link; timer = c.settle.new.timer })
    c.in-Some.link c.turn-answer.new.self c.turn-answer.result
    c.in-Some.is c.turn-answer.ensures.turned c.settle.ensures.link c.settle.ensures.timer
    )

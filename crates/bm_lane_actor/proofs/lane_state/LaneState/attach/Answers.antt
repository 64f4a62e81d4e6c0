use Rattle.std.proofs.Common.{◌∙◌, sym}
use Rattle.bm_lane_actor.proofs.Serving.{attached, declined, stands}
use Rattle.bm_lane_actor.proofs.lane_state.LaneState.attach.Goals as goal

pub invariant_of-self-2 : goal.invariant_of-self-2
invariant_of-self-2 g c =
    stands g.S.Write.contents c.args.link c.self.inside.reader c.self.inside.resume_state c.self.inside.timer
    c.take_up-answer.result.0 c.take_up-answer.new.reader c.take_up-answer.new.resume_state c.take_up-answer.result.1 c.put.new.place c.take_up-answer.new.timer
    c.self.invariant.2 c.take_up-answer.ensures c.put.ensures

pub returns : goal.returns
returns g c =
    rw (← c.self.view_is) (
    attached g.S.Write.contents c.args.link c.self.inside.reader c.self.inside.resume_state c.self.inside.link c.self.inside.timer
    c.take_up-answer.result.0 c.take_up-answer.new.reader c.take_up-answer.new.resume_state c.take_up-answer.result.1 c.put.new.place c.take_up-answer.new.timer
    (sym c.is_some.ensures ∙ c.if-is_some.false) c.take_up-answer.ensures c.put.ensures
    )

pub returns-then-is_some : goal.returns-then-is_some
returns-then-is_some g c =
    rw (← c.self.view_is) (
    declined g.S.Write.contents c.args.link c.self.inside.reader c.self.inside.resume_state c.self.inside.link c.self.inside.timer
    c.decline.result c.decline.new.reader c.decline.new.resume_state
    (sym c.is_some.ensures ∙ c.if-is_some.true) c.decline.ensures.lane c.decline.ensures.resume_state c.decline.ensures.fault
    )

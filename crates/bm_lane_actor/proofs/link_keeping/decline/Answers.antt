use Rattle.bm_lane_actor.proofs.Declining.{declines}
use Rattle.bm_lane_actor.proofs.link_keeping.decline.Goals as goal

pub returns-clause-fault : goal.returns-clause-fault
returns-clause-fault g c =
    declines g.S.Write.contents c.args.link c.args.reader.now c.args.resume_state.now c.attach-answer.result _
    c.attach-answer.new.self c.attach-answer.new.reader c.attach-answer.new.resume_state
    c.in-Err.is c.requires c.trace-events.ensures.taken c.attach-answer.ensures.up

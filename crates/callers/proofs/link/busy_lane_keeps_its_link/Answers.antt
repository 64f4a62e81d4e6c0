use Rattle.callers.proofs.LinkTurns.{never_busy}
use Rattle.callers.proofs.link.busy_lane_keeps_its_link.Goals as goal

pub returns : goal.returns
returns g c =
    never_busy g.S.Read.remaining g.S.Write.contents
    c.args.link.now.stage c.args.link.now c.args.reader.now c.args.resume_state.now c.turn.result c.turn.new.self c.turn.new.reader c.turn.new.resume_state
    c.turn.ensures.turned

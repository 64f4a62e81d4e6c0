use Rattle.callers.proofs.LinkTurns.{noted_was_taken}
use Rattle.callers.proofs.link.noted_event_was_taken.Goals as goal

pub returns : goal.returns
returns g c =
    noted_was_taken g.S.Read.remaining g.S.Write.contents
    c.args.link.now.stage c.args.link.now c.args.reader.now c.args.resume_state.now c.turn.result c.turn.new.self c.turn.new.reader c.turn.new.resume_state
    c.turn.ensures.turned

use Rattle.callers.proofs.LinkTurns.{leaves_nothing}
use Rattle.callers.proofs.link.failed_read_leaves_nothing_to_send.Goals as goal

pub returns : goal.returns
returns g c =
    leaves_nothing g.S.Read.remaining g.S.Write.contents
    c.args.link.now.stage c.args.link.now c.args.reader.now c.args.resume_state.now c.turn.result c.turn.new.self c.turn.new.reader c.turn.new.resume_state
    (c.requires.came.0, c.requires.came.1, c.requires.waits.1) c.requires.waits.0 c.turn.ensures.turned

use Rattle.std.proofs.Common.{refl}
use Rattle.callers.proofs.LinkTurns.{over_after, over_only_waits}
use Rattle.callers.proofs.link.failed_link_hears_nothing.Goals as goal

pub returns-in-Err : goal.returns-in-Err
returns-in-Err g c =
    over_only_waits g.S.Read.remaining g.S.Write.contents
    c.turn.new.self.stage c.turn.new.self c.turn.new.reader c.turn.new.resume_state c.turn-in-Err.result c.turn-in-Err.new.self c.turn-in-Err.new.reader c.turn-in-Err.new.resume_state
    (over_after g.S.Read.remaining g.S.Write.contents
    c.args.link.now.stage c.args.link.now c.args.reader.now c.args.resume_state.now _ c.turn.new.self c.turn.new.reader c.turn.new.resume_state refl c.in-Err.ensures.turned)
    c.turn-in-Err.ensures.turned

use Rattle.callers.proofs.LinkCuts.{turn_cuts}
use Rattle.callers.proofs.link.session_is_cut_after_a_fault.Goals as goal

pub returns : goal.returns
returns g c =
    turn_cuts g.S.Read.remaining g.S.Write.contents
    c.args.link.now.stage c.args.link.now c.args.reader.now c.args.resume_state.now c.turn.result c.turn.new.self c.turn.new.reader c.turn.new.resume_state
    c.requires.up c.requires.named c.requires.lane.0 c.requires.lane.1 c.turn.ensures.turned

use Rattle.callers.proofs.LinkTurns.{not_passed_over}
use Rattle.callers.proofs.link.message_in_hand_is_not_passed_over.Goals as goal

pub returns : goal.returns
returns g c =
    not_passed_over g.S.Read.remaining g.S.Write.contents
    c.args.link.now.stage c.args.link.now c.args.reader.now c.args.resume_state.now c.turn.result c.turn.new.self c.turn.new.reader c.turn.new.resume_state
    c.requires c.turn.ensures.turned

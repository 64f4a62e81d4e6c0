use Rattle.std.proofs.Common.{subst}
use Rattle.bm_link.specs.declared.ending.Stage.{Stage}
use Rattle.bm_link.specs.Link.{Turned}
use Rattle.callers.proofs.LinkCalls.{falls_with_a_cut}
use Rattle.callers.proofs.LinkTurns.{falls_by_a_cut}
use Rattle.callers.proofs.link.session_is_cut_after_a_failed_ask.Goals as goal

pub returns-in-Err : goal.returns-in-Err
returns-in-Err g c =
    let falls = falls_with_a_cut g.S.Write.contents _ c.args.link.now.stage c.args.link.now c.args.resume_state.now c.in-Err.why c.ask.new.self c.ask.new.resume_state
    c.requires.up c.requires.named c.in-Err.ensures.asked in
    falls_by_a_cut g.S.Read.remaining g.S.Write.contents c.ask.new.self c.args.reader.now c.ask.new.resume_state c.turn.result c.turn.new.self c.turn.new.reader c.turn.new.resume_state c.requires.fits
    (subst (λ (s : Stage). Turned g.S.Read.remaining g.S.Write.contents s c.ask.new.self c.args.reader.now c.ask.new.resume_state c.turn.result c.turn.new.self c.turn.new.reader c.turn.new.resume_state) falls c.turn.ensures.turned)

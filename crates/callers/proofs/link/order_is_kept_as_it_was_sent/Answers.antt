use Rattle.callers.proofs.LinkCalls.{interrupt_keeps}
use Rattle.callers.proofs.link.order_is_kept_as_it_was_sent.Goals as goal

pub returns : goal.returns
returns g c =
    interrupt_keeps g.S.Write.contents c.args.command c.args.link.now.stage c.args.link.now c.args.reader.now c.args.resume_state.now c.interrupt.result c.interrupt.new.self c.interrupt.new.reader c.interrupt.new.resume_state
    c.interrupt.ensures.interrupted

use Rattle.callers.proofs.LinkAgain.{sends_again}
use Rattle.callers.proofs.link.order_is_sent_again.Goals as goal

pub returns-in-Ok : goal.returns-in-Ok
returns-in-Ok g c is login waits =
    sends_again g.S.Write.contents c.args.argv.now c.args.link.now.stage c.args.link.now c.args.reader.now c.args.resume_state.now _ c.start.new.self c.start.new.reader c.start.new.resume_state c.in-Ok.ensures.started
    c.args.next.now.login c.args.next.now c.attach.result c.attach.new.self c.attach.new.reader c.attach.new.resume_state c.attach.ensures.up is login waits

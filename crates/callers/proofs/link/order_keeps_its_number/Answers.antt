use Rattle.callers.proofs.LinkCalls.{start_keeps}
use Rattle.callers.proofs.link.order_keeps_its_number.Goals as goal

pub returns : goal.returns
returns g c =
    start_keeps g.S.Write.contents c.args.argv.now c.args.link.now.stage c.args.link.now c.args.reader.now c.args.resume_state.now c.start.result c.start.new.self c.start.new.reader c.start.new.resume_state
    c.start.ensures.started

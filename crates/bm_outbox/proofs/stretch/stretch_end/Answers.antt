use Rattle.std.proofs.Common.{arith}
use Rattle.bm_outbox.proofs.Stretches.{found-stretch, full-stretch, nowhere-unended}
use Rattle.bm_outbox.proofs.stretch.stretch_end.Goals as goal

pub returns-in-Some : goal.returns-in-Some
returns-in-Some c = found-stretch c.args.bytes.now c.min-len.result c.in-Some.place (omega arith) (omega arith) c.in-Some.ensures

pub returns-in-None : goal.returns-in-None
returns-in-None c = full-stretch c.args.bytes.now c.min-len.result (omega arith) (omega arith) c.in-None.ensures

pub returns-in-None-2 : goal.returns-in-None-2
returns-in-None-2 c = nowhere-unended c.args.bytes.now c.min-len.result (omega arith) (omega arith) c.in-None-2.ensures

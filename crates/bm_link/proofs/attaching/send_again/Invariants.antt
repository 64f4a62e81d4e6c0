use Rattle.std.proofs.Common.{take}
use Rattle.bm_link.specs.Attaching.{SendsAll}
use Rattle.bm_link.proofs.attaching.send_again.Given as goal

abbrev pub invariant-loop-order : goal.invariant-loop-order
invariant-loop-order g l = SendsAll g.S.Write.contents l.fn.socket (take l.order-index l.orders) l.socket

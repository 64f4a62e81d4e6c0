use Rattle.std.proofs.Common.{◌∙◌}
use Rattle.bm_link.proofs.Sending.{fails_attached, sends_attached}
use Rattle.bm_link.proofs.attaching.send_attached.Goals as goal

pub returns-in-Ok-send : goal.returns-in-Ok-send
returns-in-Ok-send g c = record {
  sent =
      sends_attached g.S.Write.contents c.args.seq c.args.attached c.args.orders.now c.args.socket.now c.send.new.socket c.send_again.new.socket
      c.as_slice.result.now c.send_again.result (c.as_slice.ensures.value ∙ c.in-Ok.ensures) c.in-Ok-send.ensures.sent c.send_again.ensures.sent;
  unsent =
      fails_attached g.S.Write.contents c.args.seq c.args.attached c.args.orders.now c.args.socket.now c.send.new.socket c.send_again.new.socket
      c.as_slice.result.now c.send_again.result (c.as_slice.ensures.value ∙ c.in-Ok.ensures) c.in-Ok-send.ensures.sent c.send_again.ensures.unsent;
}

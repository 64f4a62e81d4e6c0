use Rattle.std.proofs.Common.{◌∙◌, sym, ap, subst, ℕ}
use Rattle.tungstenite.specs.Content.{binary}
use Rattle.tungstenite.specs.Socket.{Socket}
use Rattle.bm_session.specs.declared.event.Event.TheVariants.{Stop}
use Rattle.bm_session.specs.Trace.{orders}
use Rattle.bm_lane.specs.Hearing.{with_event}
use Rattle.bm_link.specs.Carries.{with_order, may_cut}
use Rattle.bm_link.specs.Causes.{IsUnsent}
use Rattle.bm_link.specs.Orders.{interrupt_bytes}
use Rattle.bm_link.proofs.Stages.{ends_at, interrupt_fails}
use Rattle.bm_link.proofs.master.MasterLink.interrupt.Goals as goal

-- the lane took the order, and the link failed
pub returns-in-Err-send_message-clause-interrupted : goal.returns-in-Err-send_message-clause-interrupted
returns-in-Err-send_message-clause-interrupted g c =
    rw (← c.self.view_is) (
    interrupt_fails g.S.Write.contents c.args.command
    (record { socket = c.self.inside.socket; stage = c.self.inside.stage; login = c.self.inside.login; kept = c.self.inside.kept; refused = c.self.inside.refused })
    c.args.reader.now c.args.resume_state.now c.in-Err-send_message.fault c.end.new.self c.end.new.reader c.interrupt_order.new.resume_state
    c.in-Up.is
    (c.in-Ok.ensures.ok.1 ∙ ap (λ (n : ℕ). with_order c.args.resume_state.now (record { seq = n; bytes = interrupt_bytes n c.args.command })) c.next_order.ensures.number) (
      subst (λ (s : Socket g.row.S.Denot). IsUnsent g.S.Write.contents (interrupt_bytes (orders c.args.reader.now.trace) c.args.command) c.self.inside.socket c.in-Err-send_message.fault s)
          (sym c.end.ensures.rest.0) (
          c.in-Err-send_message.ensures.unsent (interrupt_bytes (orders c.args.reader.now.trace) c.args.command)
          (c.in-Ok.ensures.ok.0 ∙ ap (λ (n : ℕ). binary (interrupt_bytes n c.args.command)) c.next_order.ensures.number)
          ),
      ends_at c.may_cut.result (may_cut c.interrupt_order.new.resume_state c.in-Err-send_message.fault) c.stop.new.self
          (with_event c.args.reader.now (Stop c.args.command)) c.end.new.reader c.end.result c.end.new.self.stage
          c.may_cut.ensures c.in_default-stop.ensures.0 c.end.ensures.ended c.end.ensures.stage,
      c.end.ensures.kept,
    )
    )

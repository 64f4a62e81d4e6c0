use Rattle.std.proofs.Common.{◌∙◌, refl, sym, ap}
use Rattle.tungstenite.specs.Socket.{content_of}
use Rattle.bm_session.specs.declared.event.Event.TheVariants.{Cut, Go}
use Rattle.bm_session.specs.Trace.{orders, commands}
use Rattle.bm_lane.specs.Ends.{Heard}
use Rattle.bm_lane.specs.Hearing.{with_event}
use Rattle.bm_link.specs.Carries.{may_cut}
use Rattle.bm_link.specs.Endings.{stage_after}
use Rattle.bm_link.specs.Link.{LinkState}
use Rattle.bm_link.proofs.Stages.{cut_of, fallen_is_no_cut, falls_at, start_cuts, start_fails, start_kept, start_unsent}
use Rattle.bm_link.proofs.master.MasterLink.start.Goals as goal

-- the lane took the order, and the link failed and cut it
pub returns-in-Cut : goal.returns-in-Cut
returns-in-Cut g c =
    let cut = cut_of c.may_cut.result c.go.new.self c.end.new.reader c.end.result c.end.ensures.ended c.in-Cut.is in
    record {
      started = rw (← c.self.view_is) (
          start_cuts g.S.Write.contents c.args.argv.now
          (record { socket = c.self.inside.socket; stage = c.self.inside.stage; login = c.self.inside.login; kept = c.self.inside.kept; refused = c.self.inside.refused })
          c.args.reader.now c.args.resume_state.now c.next_command-command.result c.end.new.self c.end.new.reader c.start_order.new.resume_state
          c.in-Up.is c.next_command-command.ensures.number
          (start_kept c.args.reader.now.trace c.args.argv.now c.args.resume_state.now c.start_order.new.resume_state c.next_order.result c.next_command-command.result
          c.in-Ok.ensures.ok.1 c.next_order.ensures.number c.next_command-command.ensures.number) (
            c.in-Err-send_message.fault,
            start_unsent g.S.Write.contents c.self.inside.socket c.send_message.new.socket c.end.new.self.socket (content_of c.in-Ok.message) c.args.argv.now
                c.next_order.result c.next_command-command.result (orders c.args.reader.now.trace) c.next_command-command.result c.in-Err-send_message.fault
                c.in-Ok.ensures.ok.0 c.next_order.ensures.number refl c.in-Err-send_message.ensures.unsent c.end.ensures.rest.0,
            sym c.may_cut.ensures ∙ cut.0,
            cut.1 ∙ ap (λ (h : Heard). with_event h Cut) c.in_default-go.ensures.0,
            c.end.ensures.stage ∙ ap stage_after c.in-Cut.is,
            c.end.ensures.kept,
          )
          );
      login = c.end.ensures.login ∙ ap (λ (l : LinkState g.row.S.Denot). l.login) c.self.view_is;
      refused = c.end.ensures.rest.1 ∙ ap (λ (l : LinkState g.row.S.Denot). l.refused) c.self.view_is;
    }

-- it failed, and took it down, or the Down waits
pub returns-in-Down : goal.returns-in-Down
returns-in-Down g c = record {
  started = rw (← c.self.view_is) (
      start_fails g.S.Write.contents c.args.argv.now
      (record { socket = c.self.inside.socket; stage = c.self.inside.stage; login = c.self.inside.login; kept = c.self.inside.kept; refused = c.self.inside.refused })
      c.args.reader.now c.args.resume_state.now c.in-Err-send_message.fault c.end.new.self c.end.new.reader c.start_order.new.resume_state
      c.in-Up.is
      (start_kept c.args.reader.now.trace c.args.argv.now c.args.resume_state.now c.start_order.new.resume_state c.next_order.result c.next_command-command.result
      c.in-Ok.ensures.ok.1 c.next_order.ensures.number c.next_command-command.ensures.number) (
        start_unsent g.S.Write.contents c.self.inside.socket c.send_message.new.socket c.end.new.self.socket (content_of c.in-Ok.message) c.args.argv.now
            c.next_order.result c.next_command-command.result (orders c.args.reader.now.trace) (commands c.args.reader.now.trace) c.in-Err-send_message.fault
            c.in-Ok.ensures.ok.0 c.next_order.ensures.number c.next_command-command.ensures.number c.in-Err-send_message.ensures.unsent c.end.ensures.rest.0,
        falls_at c.may_cut.result (may_cut c.start_order.new.resume_state c.in-Err-send_message.fault) c.go.new.self
            (with_event c.args.reader.now Go) c.end.new.reader c.end.result c.end.new.self.stage
            c.may_cut.ensures c.in_default-go.ensures.0 (fallen_is_no_cut c.end.result c.in-Down.is) c.end.ensures.ended c.end.ensures.stage,
        c.end.ensures.kept,
      )
      );
  login = c.end.ensures.login ∙ ap (λ (l : LinkState g.row.S.Denot). l.login) c.self.view_is;
  refused = c.end.ensures.rest.1 ∙ ap (λ (l : LinkState g.row.S.Denot). l.refused) c.self.view_is;
}

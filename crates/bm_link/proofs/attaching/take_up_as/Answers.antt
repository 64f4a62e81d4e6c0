use Rattle.std.proofs.Common.{◌∙◌, ap, subst, inr, List, ℕ, Option}
use Rattle.bm_work.specs.declared.sent.Sent.{Sent}
use Rattle.bm_link.specs.declared.attaching.Attached.{Attached}
use Rattle.bm_link.specs.Attaching.{FailsToSendAttached, SendsAttached, taken_up}
use Rattle.bm_link.specs.Carries.{carried_with, may_cut}
use Rattle.bm_link.proofs.Stages.{ends_at}
use Rattle.bm_link.proofs.attaching.take_up_as.Goals as goal

pub returns-in-Ok : goal.returns-in-Ok
returns-in-Ok g c = (
  c.attached_as-attached.ensures,
  c.in_default.ensures,
  c.resume_or_begin.ensures ∙ ap (λ (n : Option (List ℕ)). carried_with c.args.resumes c.args.resume_state.now n) c.beginning.ensures,
  subst (λ (os : List Sent). SendsAttached g.S.Write.contents c.args.socket.now c.args.login.seq c.attached_as-attached.result os c.send_attached.new.socket) c.orders.ensures c.in-Ok.ensures.sent,
)

-- the lane went up, and not all was sent
pub returns-in-Err-send_attached : goal.returns-in-Err-send_attached
returns-in-Err-send_attached g c = inr (
  ends_at c.may_cut.result (may_cut c.resume_or_begin.new.self c.in-Err-send_attached.fault) c.go_up.new.reader
      (taken_up c.args.resumes c.args.reader.now) c.cut_or_fall.new.reader c.cut_or_fall.result c.stage.result
      c.may_cut.ensures c.in_default.ensures
      c.cut_or_fall.ensures c.stage.ensures,
  c.resume_or_begin.ensures ∙ ap (λ (n : Option (List ℕ)). carried_with c.args.resumes c.args.resume_state.now n) c.beginning.ensures,
  subst (λ (a : Attached). FailsToSendAttached g.S.Write.contents c.args.socket.now c.args.login.seq a c.resume_or_begin.new.self.orders c.in-Err-send_attached.fault c.send_attached.new.socket)
      c.attached_as-attached.ensures (
      subst (λ (os : List Sent). FailsToSendAttached g.S.Write.contents c.args.socket.now c.args.login.seq c.attached_as-attached.result os c.in-Err-send_attached.fault c.send_attached.new.socket)
      c.orders.ensures c.in-Err-send_attached.ensures.unsent
      ),
)

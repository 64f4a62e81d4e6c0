use Rattle.std.proofs.Common.{◌≡◌, ◌∙◌, ap, sym, subst, None}
use Rattle.std.specs.Prelude.{option_map, find, ◌==◌}
use Rattle.bm_session.specs.declared.event.Event.TheVariants.{In}
use Rattle.std.proofs.Common.{true, false, refl}
use Rattle.std.proofs.Common.{ℕ, ℤ, List, Option, inl, inr}
use Rattle.std.specs.Prelude.{◌⊎◌}
use Rattle.bm_lines.specs.declared.line_batch.LogLines.{LogLines}
use Rattle.bm_session.specs.declared.event.Body.{Body}
use Rattle.bm_session.specs.declared.event.Body.TheVariants.{Auth, Update, BadArgs, NoSuchOp, Answered}
use Rattle.bm_session.specs.declared.open.Open.{Open}
use Rattle.bm_session.specs.Trace.{ended_by}
use Rattle.bm_session.specs.Table.{open_entry}
use Rattle.bm_session.proofs.Stepped.{ended-none, ended-refusal, ends_nothing}
use Rattle.bm_session.proofs.Hearing.{ended-Complete, ended-Repeat}
use Rattle.bm_session.proofs.table.Table.ended.Goals as goal

pub returns-then-is_new : goal.returns-then-is_new
returns-then-is_new c = λ t is up.
    subst (λ b. c.with_command.result ≡ option_map (open_entry t) (ended_by t (In c.args.number b))) (sym c.in-Complete.is)
    (ended-Complete c.args.self.now t c.args.number c.in-Complete.command c.in-Complete.fault c.with_command.result is (sym (c.is_new.ensures t is up) ∙ c.if-is_new.true)
    (c.with_command.ensures ∙ ap (find (λ (o : Open). c.in-Complete.command == o.command)) c.as_slice.ensures.value))

pub returns-else-is_new : goal.returns-else-is_new
returns-else-is_new c = λ t is up.
    subst (λ b. None ≡ option_map (open_entry t) (ended_by t (In c.args.number b))) (sym c.in-Complete.is)
    (ended-Repeat c.args.self.now t c.args.number c.in-Complete.command c.in-Complete.fault is (sym (c.is_new.ensures t is up) ∙ c.if-is_new.false))

pub returns-then-fault : goal.returns-then-fault
returns-then-fault c = λ t is up.
    subst (λ b. c.with_order.result ≡ option_map (open_entry t) (ended_by t (In c.args.number b))) (sym (c.in-Answered.is ∙ ap Answered c.if-fault.true))
    (c.with_order.ensures ∙ ap (find (λ (o : Open). o.order == c.args.number)) c.as_slice-then-fault.ensures.value ∙ ended-refusal c.args.self.now t c.args.number is)

pub returns-else-fault : goal.returns-else-fault
returns-else-fault c = λ t is up.
    subst (λ b. None ≡ option_map (open_entry t) (ended_by t (In c.args.number b))) (sym (c.in-Answered.is ∙ ap Answered c.if-fault.false)) (ended-none t c.args.number (Answered false) refl)

-- the other messages end nothing
other : (b : Body) → (b ≡ Auth) ⊎ (((j : ℕ) × (batch : List LogLines) × (rc : Option ℤ) × (b ≡ Update j batch rc)) ⊎ ((b ≡ BadArgs) ⊎ (b ≡ NoSuchOp))) → ends_nothing b ≡ true
other b (inl e) = ap ends_nothing e
other b (inr (inl u)) = ap ends_nothing u.3
other b (inr (inr (inl e))) = ap ends_nothing e
other b (inr (inr (inr e))) = ap ends_nothing e

pub returns-in-Auth : goal.returns-in-Auth
returns-in-Auth c = λ t is up. ended-none t c.args.number c.args.body.now (other c.args.body.now c.in-Auth.is)

pub returns-in-Auth-2 : goal.returns-in-Auth-2
returns-in-Auth-2 c = λ t is up. ended-none t c.args.number c.args.body.now (other c.args.body.now c.in-Auth.is)

pub returns-in-Auth-3 : goal.returns-in-Auth-3
returns-in-Auth-3 c = λ t is up. ended-none t c.args.number c.args.body.now (other c.args.body.now c.in-Auth.is)

pub returns-in-Auth-4 : goal.returns-in-Auth-4
returns-in-Auth-4 c = λ t is up. ended-none t c.args.number c.args.body.now (other c.args.body.now c.in-Auth.is)

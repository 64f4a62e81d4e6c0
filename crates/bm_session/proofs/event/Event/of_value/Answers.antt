use Rattle.std.proofs.Common.{◌≡◌, ◌≢◌, ◌∙◌, sym, subst, inl, IfOk, IfErr, IsErrOf}
use Rattle.bm_value.specs.View.{tree}
use Rattle.bm_msg.specs.Meaning.{meaning}
use Rattle.bm_msg.specs.Updates.{says}
use Rattle.bm_msg.specs.declared.fault.MsgError.TheVariants.{Mem}
use Rattle.bm_session.specs.Heard.{IsEvent, IsNoEvent}
use Rattle.bm_session.proofs.Events.{one_event, no_reason, no_bad_args, faulty_event, faulty_wants, faulty_fault, faulty_told, faulty_args}
use Rattle.bm_session.proofs.event.Event.of_value.Goals as goal

pub returns-in_err-of_text-clause-told : goal.returns-in_err-of_text-clause-told
returns-in_err-of_text-clause-told g c = λ f bad. absurd (no_reason (tree c.args.value.now) (says c.in-Some.update) f c.in-Some.ensures.some bad)

pub returns-in_err-of_text-clause-args : goal.returns-in_err-of_text-clause-args
returns-in_err-of_text-clause-args g c = λ n bad. absurd (no_bad_args (tree c.args.value.now) (says c.in-Some.update) n c.in-Some.ensures.some bad)

pub returns-in-Some-clause-event : goal.returns-in-Some-clause-event
returns-in-Some-clause-event g c = inl (says c.in-Some.update, c.in-Some.ensures.some, c.in_ok-of_text.ensures)

pub returns-in-Some-clause-only : goal.returns-in-Some-clause-only
returns-in-Some-clause-only g c = λ e is. c.in_ok-of_text.ensures ∙ sym (one_event (tree c.args.value.now) (says c.in-Some.update) e c.in-Some.ensures.some is)

pub returns-in-Some-clause-told : goal.returns-in-Some-clause-told
returns-in-Some-clause-told g c = λ f bad. absurd (no_reason (tree c.args.value.now) (says c.in-Some.update) f c.in-Some.ensures.some bad)

pub returns-in-Some-clause-args : goal.returns-in-Some-clause-args
returns-in-Some-clause-args g c = λ n bad. absurd (no_bad_args (tree c.args.value.now) (says c.in-Some.update) n c.in-Some.ensures.some bad)

pub returns-in_err-of_message-in-Ok-clause-told : goal.returns-in_err-of_message-in-Ok-clause-told
returns-in_err-of_message-in-Ok-clause-told g c = λ f bad. absurd (no_reason (tree c.args.value.now) (meaning c.in-Ok.message) f c.in-Ok.ensures.found bad)

pub returns-in_ok-of_message-in-Ok-clause-told : goal.returns-in_ok-of_message-in-Ok-clause-told
returns-in_ok-of_message-in-Ok-clause-told g c = λ f bad. absurd (no_reason (tree c.args.value.now) (meaning c.in-Ok.message) f c.in-Ok.ensures.found bad)

pub returns-in-Err-clause-event : goal.returns-in-Err-clause-event
returns-in-Err-clause-event g c = subst (λ r. IfOk r (IsEvent (tree c.args.value.now))) (sym c.of_fault.ensures) (faulty_event (tree c.args.value.now) c.in-Err.fault c.in-Err.ensures.fault)

pub returns-in-Err-clause-wants : goal.returns-in-Err-clause-wants
returns-in-Err-clause-wants g c = λ e is. subst (λ r. IfErr r (λ f. f ≡ Mem)) (sym c.of_fault.ensures) (faulty_wants (tree c.args.value.now) c.in-Err.fault c.in-Err.ensures.fault e is)

pub returns-in-Err-clause-fault : goal.returns-in-Err-clause-fault
returns-in-Err-clause-fault g c = subst (λ r. IfErr r (λ f. f ≢ Mem → IsNoEvent (tree c.args.value.now) f)) (sym c.of_fault.ensures) (faulty_fault (tree c.args.value.now) c.in-Err.fault c.in-Err.ensures.fault)

pub returns-in-Err-clause-told : goal.returns-in-Err-clause-told
returns-in-Err-clause-told g c = λ f bad. subst (λ r. IsErrOf r f) (sym c.of_fault.ensures) (faulty_told (tree c.args.value.now) c.in-Err.fault c.in-Err.ensures.refused f bad)

pub returns-in-Err-clause-args : goal.returns-in-Err-clause-args
returns-in-Err-clause-args g c = λ n bad. c.of_fault.ensures ∙ faulty_args (tree c.args.value.now) c.in-Err.fault c.in-Err.ensures.refused n bad

use Rattle.std.proofs.Common.{◌∙◌, sym, ap, List, [], ◌∷◌, ◌++◌}
use Rattle.bm_session.specs.declared.event.Event.{Event}
use Rattle.bm_session.specs.declared.run.Ran.{Ran}
use Rattle.bm_session.specs.Trace.{refusal}
use Rattle.bm_session.specs.Session.{ran_as, trace_as, ran_after}
use Rattle.bm_session.proofs.Runs.{trace_after-push, ran_after-push}
use Rattle.bm_session.proofs.session.Session.run.Goals as goal

pub loop-event-preserved : goal.loop-event-preserved
loop-event-preserved c =
    let yielded = c.loop-event.yielded in
    let e = c.in-Some.event in
    let before = c.loop-event.invariant in
    record {
      trace = c.in_ok-one.ensures.trace ∙ ap (λ (t : List Event). trace_as t e (refusal t e)) before.trace ∙ sym (trace_after-push [] yielded e);
      ran = c.in_ok-push.ensures.items
          ∙ ap (λ (rs : List Ran). rs ++ c.in_ok-one.one ∷ []) before.ran
          ∙ ap (λ (r : Ran). ran_after [] yielded ++ r ∷ []) (c.in_ok-one.ensures.ran ∙ ap (λ (t : List Event). ran_as t e (refusal t e)) before.trace)
          ∙ sym (ran_after-push [] yielded e);
    }

-- Runs of events, where one event comes after the others.
use Rattle.std.proofs.Common.{◌≡◌, refl, ap, List, [], ◌∷◌, ◌++◌}
use Rattle.bm_session.specs.declared.event.Event.{Event}
use Rattle.bm_session.specs.Trace.{Trace, refusal}
use Rattle.bm_session.specs.Session.{ran_as, trace_as, ran_after, trace_after}

pub trace_after-push : (t : Trace) (es : List Event) (e : Event) → trace_after t (es ++ e ∷ []) ≡ trace_as (trace_after t es) e (refusal (trace_after t es) e)
trace_after-push t [] e = refl
trace_after-push t (x ∷ xs) e = trace_after-push (trace_as t x (refusal t x)) xs e

pub ran_after-push : (t : Trace) (es : List Event) (e : Event) → ran_after t (es ++ e ∷ []) ≡ ran_after t es ++ ran_as (trace_after t es) e (refusal (trace_after t es) e) ∷ []
ran_after-push t [] e = refl
ran_after-push t (x ∷ xs) e = ap (λ rs. ran_as t x (refusal t x) ∷ rs) (ran_after-push (trace_as t x (refusal t x)) xs e)

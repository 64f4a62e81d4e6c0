-- The numbers that were had and the orders without an answer, where one event comes after the
-- trace.
use Rattle.std.proofs.Common.{◌≡◌, refl, ◌∙◌, ap, ℕ, Bool, true, false, cond, not, ◌||◌, ◌&&◌, List, [], ◌∷◌, ◌++◌, Some, None}
use Rattle.std.specs.Prelude.{option_map, filter}
use Rattle.std.specs.List.{list_any}
use Rattle.std.specs.Option.{option_or}
use Rattle.bm_session.proofs.Snoc.{list_any-push}
use Rattle.bm_session.proofs.Pushed.{next, session-push, first_with-push}
use Rattle.bm_session.specs.declared.event.Event.{Event}
use Rattle.bm_session.specs.Events.{is_order, is_request, is_answer_to}
use Rattle.bm_session.specs.Trace.{Trace, Moment, begins_session, session, orders, verdict, first_with, seen, unanswered, pending, is_up, is_cut}

-- the first verdict on a number, after one event more
pub seen-push : (t : Trace) (e : Event) (n : ℕ)
    → seen (t ++ e ∷ []) n ≡ cond (is_up (t ++ e ∷ []) || is_cut (t ++ e ∷ [])) (option_map (λ (m : Moment). verdict m.past m.event) (cond (begins_session (next t e)) None (option_or (first_with t n) (cond (is_request n e) (Some (next t e)) None)))) None
seen-push t e n = ap (λ o. cond (is_up (t ++ e ∷ []) || is_cut (t ++ e ∷ [])) (option_map (λ (m : Moment). verdict m.past m.event) o) None) (first_with-push t e n)

unanswered-push : (ms : List Moment) (m : Moment)
    → unanswered (ms ++ m ∷ []) ≡ filter (λ (l : Moment). not (is_answer_to (orders l.past) m.event)) (unanswered ms) ++ cond (is_order m.event) (m ∷ []) []
unanswered-push [] m = go (is_order m.event)
  where
    go : (b : Bool) → cond (b && true) (m ∷ []) [] ≡ cond b (m ∷ []) []
    go true = refl
    go false = refl
unanswered-push (l ∷ ls) m =
    ap (λ b. cond (is_order l.event && not b) (l ∷ unanswered (ls ++ m ∷ [])) (unanswered (ls ++ m ∷ []))) (list_any-push (λ (x : Moment). is_answer_to (orders l.past) x.event) ls m)
    ∙ ap (λ us. cond (is_order l.event && not (list_any (λ (x : Moment). is_answer_to (orders l.past) x.event) ls || is_answer_to (orders l.past) m.event)) (l ∷ us) us) (unanswered-push ls m)
    ∙ go (is_order l.event) (list_any (λ (x : Moment). is_answer_to (orders l.past) x.event) ls) (is_answer_to (orders l.past) m.event) refl
  where
    keep : Moment → Bool
    keep x = not (is_answer_to (orders x.past) m.event)

    go : (o b a : Bool) → is_answer_to (orders l.past) m.event ≡ a
        → cond (o && not (b || a)) (l ∷ (filter (λ (x : Moment). not (is_answer_to (orders x.past) m.event)) (unanswered ls) ++ cond (is_order m.event) (m ∷ []) [])) (filter (λ (x : Moment). not (is_answer_to (orders x.past) m.event)) (unanswered ls) ++ cond (is_order m.event) (m ∷ []) [])
        ≡ filter (λ (x : Moment). not (is_answer_to (orders x.past) m.event)) (cond (o && not b) (l ∷ unanswered ls) (unanswered ls)) ++ cond (is_order m.event) (m ∷ []) []
    go false b a h = refl
    go true true a h = refl
    go true false true h = rw h refl
    go true false false h = rw h refl

-- the orders without an answer, after one event more
pub pending-push : (t : Trace) (e : Event)
    → pending (t ++ e ∷ []) ≡ cond (begins_session (next t e)) [] (filter (λ (l : Moment). not (is_answer_to (orders l.past) e)) (pending t) ++ cond (is_order e) (next t e ∷ []) [])
pending-push t e = rw (session-push t e) (go (begins_session (next t e)))
  where
    go : (b : Bool) → unanswered (cond b [] (session t ++ next t e ∷ [])) ≡ cond b [] (filter (λ (l : Moment). not (is_answer_to (orders l.past) e)) (pending t) ++ cond (is_order e) (next t e ∷ []) [])
    go true = refl
    go false = unanswered-push (session t) (next t e)

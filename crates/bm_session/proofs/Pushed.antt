-- Each word on a trace, where one event comes after the trace.
use Rattle.std.proofs.Common.{◌≡◌, refl, ◌∙◌, ap, ℕ, ◌+◌, Bool, true, false, cond, not, ◌||◌, ◌&&◌, List, [], ◌∷◌, ◌++◌, Option, Some, None, append_assoc}
use Rattle.std.specs.Prelude.{◌==◌, ℤ}
use Rattle.std.specs.List.{list_any, after_last, find, filter, filter_map, fold, count_by, flat_map, cons_option}
use Rattle.std.specs.Option.{option_or}
use Rattle.std.proofs.lemmas.List.{append-nil}
use Rattle.std.proofs.lemmas.List.Concat.{flat_map-append}
use Rattle.std.proofs.lemmas.List.Elements.{filter_map-append}
use Rattle.std.proofs.lemmas.List.Sums.{fold-append}
use Rattle.bm_session.proofs.Snoc.{after_last-push, list_any-push, count_by-push, find-push, filter-push, filter_map-push}
use Rattle.bm_session.specs.declared.event.Event.{Event}
use Rattle.bm_lines.specs.Lines.{Line}
use Rattle.bm_session.specs.Events.{is_up_event, is_cut_event, is_interruption, is_border, is_go, is_order, is_request, batch_of, rc_of}
use Rattle.bm_lines.specs.Names.{Name}
use Rattle.bm_lines.specs.LineBatches.{blocks_under}
use Rattle.bm_session.specs.Trace.{joined, blocks, Trace, Moment, moments, moments_after, begins_session, session, is_up, is_cut, commands, orders, is_new, starts, was_order, ends_at, ending, updates, last_rc, log, items, item, first_with}

-- the place at which e comes next
abbrev pub next : Trace → Event → Moment
next t e = record { past = t; event = e }

moments_after-push : (past t : Trace) (e : Event) → moments_after past (t ++ e ∷ []) ≡ moments_after past t ++ next (past ++ t) e ∷ []
moments_after-push past [] e = rw append-nil
moments_after-push past (x ∷ xs) e = rw (moments_after-push (past ++ x ∷ []) xs e, append_assoc past (x ∷ []) xs)

pub moments-push : (t : Trace) (e : Event) → moments (t ++ e ∷ []) ≡ moments t ++ next t e ∷ []
moments-push t e = moments_after-push [] t e

pub session-push : (t : Trace) (e : Event) → session (t ++ e ∷ []) ≡ cond (begins_session (next t e)) [] (session t ++ next t e ∷ [])
session-push t e = rw (moments-push t e) (after_last-push begins_session (moments t) (next t e))

pub is_up-push : (t : Trace) (e : Event) → is_up (t ++ e ∷ []) ≡ cond (is_interruption e) false (is_up t || is_up_event e)
is_up-push t e = rw (after_last-push is_interruption t e) (down (is_interruption e))
  where
    down : (b : Bool) → list_any is_up_event (cond b [] (after_last is_interruption t ++ e ∷ [])) ≡ cond b false (is_up t || is_up_event e)
    down true = refl
    down false = list_any-push is_up_event (after_last is_interruption t) e

pub is_cut-push : (t : Trace) (e : Event) → is_cut (t ++ e ∷ []) ≡ cond (is_border e) false (is_cut t || is_cut_event e)
is_cut-push t e = rw (after_last-push is_border t e) (go (is_border e))
  where
    go : (b : Bool) → list_any is_cut_event (cond b [] (after_last is_border t ++ e ∷ [])) ≡ cond b false (is_cut t || is_cut_event e)
    go true = refl
    go false = list_any-push is_cut_event (after_last is_border t) e

pub commands-push : (t : Trace) (e : Event) → commands (t ++ e ∷ []) ≡ commands t + cond (is_go e) 1 0
commands-push t e = count_by-push is_go t e

pub orders-push : (t : Trace) (e : Event) → orders (t ++ e ∷ []) ≡ cond (begins_session (next t e)) 0 (orders t + cond (is_order e) 1 0)
orders-push t e = rw (session-push t e) (go (begins_session (next t e)))
  where
    go : (b : Bool) → count_by (λ m. is_order m.event) (cond b [] (session t ++ next t e ∷ [])) ≡ cond b 0 (orders t + cond (is_order e) 1 0)
    go true = refl
    go false = count_by-push (λ (m : Moment). is_order m.event) (session t) (next t e)

pub is_new-push : (t : Trace) (e : Event) (n : ℕ) → is_new (t ++ e ∷ []) n ≡ cond (begins_session (next t e)) true (is_new t n && not (is_request n e))
is_new-push t e n = rw (session-push t e) (go (begins_session (next t e)))
  where
    not-or : (a b : Bool) → not (a || b) ≡ (not a && not b)
    not-or true b = refl
    not-or false b = refl

    go : (b : Bool) → not (list_any (λ m. is_request n m.event) (cond b [] (session t ++ next t e ∷ []))) ≡ cond b true (is_new t n && not (is_request n e))
    go true = refl
    go false = ap not (list_any-push (λ (m : Moment). is_request n m.event) (session t) (next t e)) ∙ not-or (list_any (λ m. is_request n m.event) (session t)) (is_request n e)

pub was_order-push : (t : Trace) (e : Event) (k n : ℕ) → was_order (t ++ e ∷ []) k n ≡ (was_order t k n || (starts k (next t e) && (orders t == n)))
was_order-push t e k n = rw (moments-push t e) (list_any-push (λ m. starts k m && (orders m.past == n)) (moments t) (next t e))

pub ending-push : (t : Trace) (e : Event) (k : ℕ) → ending (t ++ e ∷ []) k ≡ option_or (ending t k) (cond (ends_at k (next t e)) (Some (next t e)) None)
ending-push t e k = rw (moments-push t e) (find-push (ends_at k) (moments t) (next t e))

pub items-push : (t : Trace) (e : Event) → items (t ++ e ∷ []) ≡ items t ++ cons_option (item t e) []
items-push t e = rw (moments-push t e) (filter_map-push (λ m. item m.past m.event) (moments t) (next t e))

-- the blocks that e adds to a log where it comes next
abbrev pub added : Trace → ℕ → Name → Event → List (List Line)
added t k name e = cond (updates k (next t e)) (blocks_under name (batch_of e)) []

pub blocks-push : (t : Trace) (e : Event) (k : ℕ) (name : Name) → blocks (t ++ e ∷ []) k name ≡ blocks t k name ++ added t k name e
blocks-push t e k name =
    rw (moments-push t e, filter-push (updates k) (moments t) (next t e), flat_map-append (λ m. blocks_under name (batch_of m.event)) (filter (updates k) (moments t)) (cond (updates k (next t e)) (next t e ∷ []) []))
    (ap (λ ls. blocks t k name ++ ls) (one (updates k (next t e))))
  where
    one : (b : Bool) → flat_map (λ m. blocks_under name (batch_of m.event)) (cond b (next t e ∷ []) []) ≡ cond b (blocks_under name (batch_of e)) []
    one true = append-nil (blocks_under name (batch_of e))
    one false = refl

pub log-push : (t : Trace) (e : Event) (k : ℕ) (name : Name) → log (t ++ e ∷ []) k name ≡ log t k name ++ joined (added t k name e)
log-push t e k name = ap joined (blocks-push t e k name) ∙ flat_map-append (λ (x : List Line). x) (blocks t k name) (added t k name e)

pub first_with-push : (t : Trace) (e : Event) (n : ℕ) → first_with (t ++ e ∷ []) n ≡ cond (begins_session (next t e)) None (option_or (first_with t n) (cond (is_request n e) (Some (next t e)) None))
first_with-push t e n = rw (session-push t e) (go (begins_session (next t e)))
  where
    go : (b : Bool) → find (λ m. is_request n m.event) (cond b [] (session t ++ next t e ∷ [])) ≡ cond b None (option_or (first_with t n) (cond (is_request n e) (Some (next t e)) None))
    go true = refl
    go false = find-push (λ (m : Moment). is_request n m.event) (session t) (next t e)

-- the last code, with one more
pub last_rc-push : (t : Trace) (e : Event) (k : ℕ) → last_rc (t ++ e ∷ []) k ≡ option_or (cond (updates k (next t e)) (rc_of e) None) (last_rc t k)
last_rc-push t e k =
    rw (moments-push t e, filter-push (updates k) (moments t) (next t e), filter_map-append (λ (m : Moment). rc_of m.event) (filter (updates k) (moments t)) (cond (updates k (next t e)) (next t e ∷ []) []), fold-append (λ (o : Option ℤ) z. Some z) None (filter_map (λ (m : Moment). rc_of m.event) (filter (updates k) (moments t))) (filter_map (λ (m : Moment). rc_of m.event) (cond (updates k (next t e)) (next t e ∷ []) [])))
    (go (updates k (next t e)) (rc_of e) refl)
  where
    go : (b : Bool) (o : Option ℤ) → rc_of e ≡ o → fold (λ (o : Option ℤ) z. Some z) (last_rc t k) (filter_map (λ (m : Moment). rc_of m.event) (cond b (next t e ∷ []) [])) ≡ option_or (cond b o None) (last_rc t k)
    go true None h = rw h
    go true (Some z) h = rw h
    go false o h = refl

-- What a session started, refused and took, where one event comes next.
use Rattle.std.proofs.Common.{◌≡◌, refl, sym, ◌∙◌, ap, ℕ, ◌+◌, ◌≤◌, ◌<◌, Bool, true, false, cond, not, ◌||◌, ◌&&◌, [], ◌∷◌, ◌++◌, None, arith, inl, inr}
use Rattle.std.specs.Prelude.{◌⊎◌, ◌==◌, is_none, count_by}
use Rattle.std.specs.List.{list_any}
use Rattle.std.proofs.lemmas.Bool.{eqb-true, eq-eqb, or_cases, cases_lt}
use Rattle.bm_session.proofs.Snoc.{snoc_induction, list_any-push, count_by-push}
use Rattle.bm_session.proofs.Pushed.{next, moments-push, session-push, commands-push}
use Rattle.bm_session.proofs.Taken.{sound, was_taken-push, and-left, and-right, still-open, is_open-push, open-is-started, none-from, already}
use Rattle.bm_session.specs.declared.event.Event.{Event}
use Rattle.bm_session.specs.declared.event.Event.TheVariants.{Up, In, Go, Stop, Cut, Down}
use Rattle.bm_session.specs.Events.{is_go}
use Rattle.bm_session.specs.Trace.{Trace, Moment, moments, begins_session, session, starts, refuses, commands, is_open, is_cut, is_fresh, was_taken, refusal}
use Rattle.bm_replay.specs.Schedule.{was_started, was_refused, requests_taken}
use Rattle.bm_replay.proofs.Lists.{or-first, or-second}

pub was_started-push : (t : Trace) (e : Event) (k : ℕ) → was_started (t ++ e ∷ []) k ≡ cond (begins_session (next t e)) false (was_started t k || starts k (next t e))
was_started-push t e k = rw (session-push t e) (go (begins_session (next t e)))
  where
    go : (b : Bool) → list_any (starts k) (cond b [] (session t ++ next t e ∷ [])) ≡ cond b false (was_started t k || starts k (next t e))
    go true = refl
    go false = list_any-push (starts k) (session t) (next t e)

pub requests_taken-push : (t : Trace) (e : Event) → requests_taken (t ++ e ∷ []) ≡ cond (begins_session (next t e)) 0 (requests_taken t + cond (is_fresh (next t e)) 1 0)
requests_taken-push t e = rw (session-push t e) (go (begins_session (next t e)))
  where
    go : (b : Bool) → count_by is_fresh (cond b [] (session t ++ next t e ∷ [])) ≡ cond b 0 (requests_taken t + cond (is_fresh (next t e)) 1 0)
    go true = refl
    go false = count_by-push is_fresh (session t) (next t e)

pub was_refused-push : (t : Trace) (e : Event) (k : ℕ) → was_refused (t ++ e ∷ []) k ≡ (was_refused t k || refuses t k e)
was_refused-push t e k = rw (moments-push t e) (list_any-push (λ (m : Moment). refuses m.past k m.event) (moments t) (next t e))

pub started-below : (t : Trace) (k : ℕ) → was_started t k ≡ true → k < commands t
started-below = snoc_induction (λ t. (k : ℕ) → was_started t k ≡ true → k < commands t) (λ k h. cc) step
  where
    step : (t : Trace) (e : Event) → ((k : ℕ) → was_started t k ≡ true → k < commands t) → (k : ℕ) → was_started (t ++ e ∷ []) k ≡ true → k < commands (t ++ e ∷ [])
    step t e ih k h = go (begins_session (next t e)) (sym (was_started-push t e k) ∙ h)
      where
        more : commands (t ++ e ∷ []) ≡ commands t + cond (is_go e) 1 0
        more = commands-push t e

        go : (b : Bool) → cond b false (was_started t k || starts k (next t e)) ≡ true → k < commands (t ++ e ∷ [])
        go true g = cc
        go false g = elim (or_cases (was_started t k) (starts k (next t e)) g) [
          | inl w ↦ (let l : k < commands t = ih k w in omega (arith, more))
          | inr s ↦ (let one : is_go e ≡ true = and-left (is_go e) (commands t == k) s in
              let same : commands t ≡ k = eqb-true (commands t) k (and-right (is_go e) (commands t == k) s) in
              let grow : commands (t ++ e ∷ []) ≡ commands t + 1 = more ∙ ap (λ b. commands t + cond b 1 0) one in
              omega arith)
        ]

-- an open command was started in this session
pub open-is-here : (t : Trace) → was_taken t ≡ true → (k : ℕ) → is_open t k ≡ true → was_started t k ≡ true
open-is-here = snoc_induction (λ t. was_taken t ≡ true → (k : ℕ) → is_open t k ≡ true → was_started t k ≡ true) (λ h k o. let l : k < 0 = open-is-started [] k o in absurd (omega arith)) step
  where
    -- an event that isn't a Go and begins no session
    kept : (t : Trace) (e : Event) (k : ℕ) → ((k : ℕ) → is_open t k ≡ true → was_started t k ≡ true) → is_go e ≡ false → begins_session (next t e) ≡ false → is_open (t ++ e ∷ []) k ≡ true → was_started (t ++ e ∷ []) k ≡ true
    kept t e k ih g b o =
        was_started-push t e k ∙ ap (λ c. cond c false (was_started t k || starts k (next t e))) b
        ∙ or-first (was_started t k) (starts k (next t e)) (ih k (still-open t e k g o).0)

    one : (t : Trace) (e : Event) → was_taken t ≡ true → refusal t e ≡ None → ((k : ℕ) → is_open t k ≡ true → was_started t k ≡ true) → (k : ℕ) → is_open (t ++ e ∷ []) k ≡ true → was_started (t ++ e ∷ []) k ≡ true
    one t Up h r ih k o = go (is_cut t) refl
      where
        go : (b : Bool) → is_cut t ≡ b → was_started (t ++ Up ∷ []) k ≡ true
        go true c = kept t Up k ih refl (ap not c) o
        go false c =
            let was : is_open t k ≡ true = (still-open t Up k refl o).0 in
            let no : is_open t k ≡ false = (sound t h).quiet (already t _ r) c k in cc
    one t Go h r ih k o = was_started-push t Go k ∙ go (cases_lt k (commands t))
      where
        go : (k < commands t) ⊎ (commands t ≤ k) → (was_started t k || (commands t == k)) ≡ true
        go (inl l) = or-first (was_started t k) (commands t == k) (ih k (and-left _ _ (sym (is_open-push t Go k l) ∙ o)))
        go (inr l) =
            let inside : k < commands (t ++ Go ∷ []) = open-is-started (t ++ Go ∷ []) k o in
            let more : commands (t ++ Go ∷ []) ≡ commands t + 1 = commands-push t Go in
            or-second (was_started t k) (commands t == k) (eq-eqb (commands t) k (omega arith))
    one t (Stop j) h r ih k o = kept t (Stop j) k ih refl refl o
    one t Cut h r ih k o = kept t Cut k ih refl refl o
    one t Down h r ih k o = kept t Down k ih refl refl o
    one t (In n body) h r ih k o = kept t (In n body) k ih refl refl o

    step : (t : Trace) (e : Event) → (was_taken t ≡ true → (k : ℕ) → is_open t k ≡ true → was_started t k ≡ true) → was_taken (t ++ e ∷ []) ≡ true → (k : ℕ) → is_open (t ++ e ∷ []) k ≡ true → was_started (t ++ e ∷ []) k ≡ true
    step t e ih h =
        let both : (was_taken t && is_none (refusal t e)) ≡ true = sym (was_taken-push t e) ∙ h in
        let before : was_taken t ≡ true = and-left (was_taken t) (is_none (refusal t e)) both in
        one t e before (none-from (refusal t e) (and-right (was_taken t) (is_none (refusal t e)) both)) (ih before)

-- What holds of a trace each event of which was taken.
use Rattle.std.proofs.Common.{◌≡◌, refl, sym, ◌∙◌, ap, subst, ℕ, ◌+◌, ◌≤◌, ◌<◌, Bool, true, false, cond, not, ◌||◌, ◌&&◌, [], ◌∷◌, ◌++◌, Option, Some, None, arith, inl, inr, append_assoc}
use Rattle.std.specs.Prelude.{◌==◌, ◌⊎◌, nat_lt, is_none}
use Rattle.std.specs.Option.{option_or}
use Rattle.std.proofs.lemmas.Bool.{eqb-true, cases_lt, or_cases}
use Rattle.std.proofs.lemmas.List.{append-nil}
use Rattle.std.proofs.lemmas.Bool.Decides.{nat_tests}
use Rattle.bm_session.proofs.Snoc.{snoc_induction, list_all-push, and-false, or-true}
use Rattle.bm_session.proofs.Pushed.{next, moments-push, commands-push, orders-push, is_up-push, is_cut-push, was_order-push, ending-push, blocks-push}
use Rattle.bm_session.specs.declared.event.Event.{Event}
use Rattle.bm_session.specs.declared.event.Event.TheVariants.{Up, In, Go, Stop, Cut, Down}
use Rattle.bm_session.specs.declared.event.Body.{Body}
use Rattle.bm_session.specs.declared.refusal.Refusal.{Refusal}
use Rattle.bm_session.specs.declared.refusal.Refusal.TheVariants.{NotUp, AlreadyUp}
use Rattle.bm_session.specs.Events.{is_go}
use Rattle.bm_lines.specs.Names.{Name}
use Rattle.bm_session.specs.Trace.{Trace, Moment, moments, commands, orders, is_up, is_cut, was_order, ends_at, ending, is_open, blocks, starts, updates, refusal, was_taken, first_reason, reason_if, too_many_open, no_such_command, full}

pub and-left : (a b : Bool) → (a && b) ≡ true → a ≡ true
and-left true b h = refl
and-left false b h = cc

pub and-right : (a b : Bool) → (a && b) ≡ true → b ≡ true
and-right true b h = h
and-right false b h = cc

-- the events that end no command
no-end : (a f : Bool) → (a && ((f && false) || false)) ≡ false
no-end true true = refl
no-end true false = refl
no-end false f = refl

pub ends-no : (t : Trace) (k : ℕ) → (ends_at k (next t Up) ≡ false) × (ends_at k (next t Go) ≡ false) × ((j : ℕ) → ends_at k (next t (Stop j)) ≡ false) × (ends_at k (next t Cut) ≡ false)
ends-no t k = (and-false _, and-false _, λ j. and-false _, and-false _)

-- a command that wasn't started
pub record IsNothing (t : Trace) (k : ℕ) : Type 0 where
  pub no_blocks : (name : Name) → blocks t k name ≡ []
  pub no_end : ending t k ≡ None
  pub no_order : (n : ℕ) → was_order t k n ≡ false

pub not-started : (t : Trace) (k : ℕ) → commands t ≤ k → IsNothing t k
not-started = snoc_induction (λ t. (k : ℕ) → commands t ≤ k → IsNothing t k) (λ k h. record { no_blocks = λ name. refl; no_end = refl; no_order = λ n. refl }) step
  where
    step : (t : Trace) (e : Event) → ((k : ℕ) → commands t ≤ k → IsNothing t k) → (k : ℕ) → commands (t ++ e ∷ []) ≤ k → IsNothing (t ++ e ∷ []) k
    step t e ih k h =
        let grow : commands (t ++ e ∷ []) ≡ commands t + cond (is_go e) 1 0 = commands-push t e in
        let old : IsNothing t k = ih k (omega arith) in
        let above : nat_lt k (commands t) ≡ false = grind (arith, nat_tests) in
        let no_update : updates k (next t e) ≡ false = rw above (and-false _) in
        let no_ending : ends_at k (next t e) ≡ false = rw above refl in
        let no_start : starts k (next t e) ≡ false = unstarted (is_go e) grow in
        record {
          no_blocks = λ name. blocks-push t e k name ∙ rw (old.no_blocks name, no_update) refl;
          no_end = ending-push t e k ∙ rw (old.no_end, no_ending) refl;
          no_order = λ n. was_order-push t e k n ∙ rw (old.no_order n, no_start) refl;
        }
      where
        unstarted : (g : Bool) → commands (t ++ e ∷ []) ≡ commands t + cond g 1 0 → (g && (commands t == k)) ≡ false
        unstarted true grow = let e : commands t + 1 ≤ k = omega arith in grind (arith, nat_tests)
        unstarted false grow = refl

-- whether command k is open after one event more
pub is_open-push : (t : Trace) (e : Event) (k : ℕ) → k < commands t → is_open (t ++ e ∷ []) k ≡ (is_open t k && not (ends_at k (next t e)))
is_open-push t e k h =
    let grow : commands (t ++ e ∷ []) ≡ commands t + cond (is_go e) 1 0 = commands-push t e in
    let below : nat_lt k (commands t) ≡ true = grind (arith, nat_tests) in
    let below' : nat_lt k (commands (t ++ e ∷ [])) ≡ true = grind (arith, nat_tests) in
    ap (λ b. b && is_none (ending (t ++ e ∷ []) k)) below'
    ∙ ap (λ o. is_none o) (ending-push t e k)
    ∙ go (ending t k) (ends_at k (next t e))
    ∙ ap (λ b. b && is_none (ending t k) && not (ends_at k (next t e))) (sym below)
  where
    go : (o : Option Moment) (b : Bool) → is_none (option_or o (cond b (Some (next t e)) None)) ≡ (is_none o && not b)
    go None true = refl
    go None false = refl
    go (Some m) b = refl

pub was_taken-push : (t : Trace) (e : Event) → was_taken (t ++ e ∷ []) ≡ (was_taken t && is_none (refusal t e))
was_taken-push t e = rw (moments-push t e) (list_all-push (λ m. is_none (refusal m.past m.event)) (moments t) (next t e))

-- the front of a trace that was taken was taken
pub front-taken : (u v : Trace) → was_taken (u ++ v) ≡ true → was_taken u ≡ true
front-taken u [] h = subst (λ w. was_taken w ≡ true) (append-nil u) h
front-taken u (e ∷ v) h =
    let more : was_taken (u ++ e ∷ []) ≡ true = front-taken (u ++ e ∷ []) v (subst (λ w. was_taken w ≡ true) (sym (append_assoc u (e ∷ []) v)) h) in
    and-left (was_taken u) (is_none (refusal u e)) (sym (was_taken-push u e) ∙ more)

refused-up : (t : Trace) → is_up t ≡ true → refusal t Up ≡ Some AlreadyUp
refused-up t u = ap (λ b. first_reason (reason_if b AlreadyUp) (first_reason (too_many_open t Up) (first_reason (no_such_command t Up) (full t Up)))) u

-- an Up on a lane that is up is not taken
pub no-second-up : (t : Trace) → is_up t ≡ true → was_taken (t ++ Up ∷ []) ≡ true → ⊥
no-second-up t u w =
    let r : is_none (refusal t Up) ≡ true = and-right (was_taken t) (is_none (refusal t Up)) (sym (was_taken-push t Up) ∙ w) in
    let s : is_none (refusal t Up) ≡ false = ap is_none (refused-up t u) in
    cc

pub open-is-started : (t : Trace) (k : ℕ) → is_open t k ≡ true → k < commands t
open-is-started t k h = let b : nat_lt k (commands t) ≡ true = and-left _ _ h in grind (arith, nat_tests)

-- open commands belong to the session, and each has an order of its own
pub record IsSound (t : Trace) : Type 0 where
  pub quiet : is_up t ≡ false → is_cut t ≡ false → (k : ℕ) → is_open t k ≡ false
  pub ordered : (k n : ℕ) → is_open t k ≡ true → was_order t k n ≡ true → n < orders t
  pub apart : (j k n : ℕ) → is_open t j ≡ true → is_open t k ≡ true → was_order t j n ≡ true → was_order t k n ≡ true → j ≡ k

-- an open command was open before, or is started here
pub still-open : (t : Trace) (e : Event) (k : ℕ) → is_go e ≡ false → is_open (t ++ e ∷ []) k ≡ true → (is_open t k ≡ true) × (ends_at k (next t e) ≡ false)
still-open t e k g h =
    let grow : commands (t ++ e ∷ []) ≡ commands t + cond (is_go e) 1 0 = commands-push t e in
    let grow' : commands (t ++ e ∷ []) ≡ commands t = grow ∙ rw g (omega arith) in
    let inside : k < commands (t ++ e ∷ []) = open-is-started (t ++ e ∷ []) k h in
    let both : (is_open t k && not (ends_at k (next t e))) ≡ true = sym (is_open-push t e k (omega arith)) ∙ h in
    (and-left _ _ both, not-true (ends_at k (next t e)) (and-right _ _ both))
  where
    not-true : (b : Bool) → not b ≡ true → b ≡ false
    not-true false h = refl
    not-true true h = cc

-- events that leave orders and commands as they are, or add an order
keeps : (t : Trace) (e : Event) → (is_up (t ++ e ∷ []) ≡ false → is_cut (t ++ e ∷ []) ≡ false → ⊥) → is_go e ≡ false → orders t ≤ orders (t ++ e ∷ []) → IsSound t → IsSound (t ++ e ∷ [])
keeps t e live g o old =
    record {
      quiet = λ d f. absurd (live d f);
      ordered = λ k n h w. let was : n < orders t = old.ordered k n (still-open t e k g h).0 (same k n w) in omega arith;
      apart = λ j k n hj hk wj wk. old.apart j k n (still-open t e j g hj).0 (still-open t e k g hk).0 (same j n wj) (same k n wk);
    }
  where
    same : (k n : ℕ) → was_order (t ++ e ∷ []) k n ≡ true → was_order t k n ≡ true
    same k n w = elim (or_cases (was_order t k n) (starts k (next t e) && (orders t == n)) (sym (was_order-push t e k n) ∙ w)) [
      | inl h ↦ h
      | inr h ↦ let no : is_go e ≡ true = and-left _ _ (and-left _ _ h) in cc
    ]

pub not-up : (t : Trace) (r : Option Refusal) → first_reason (reason_if (not (is_up t)) NotUp) r ≡ None → is_up t ≡ true
not-up t r h = go (is_up t) h
  where
    go : (b : Bool) → first_reason (reason_if (not b) NotUp) r ≡ None → b ≡ true
    go true f = refl
    go false f = cc

pub already : (t : Trace) (r : Option Refusal) → first_reason (reason_if (is_up t) AlreadyUp) r ≡ None → is_up t ≡ false
already t r h = go (is_up t) h
  where
    go : (b : Bool) → first_reason (reason_if b AlreadyUp) r ≡ None → b ≡ false
    go false f = refl
    go true f = cc

-- nothing is open
silent : (t : Trace) → ((k : ℕ) → is_open t k ≡ false) → IsSound t
silent t none = record {
  quiet = λ u f k. none k;
  ordered = λ k n h w. let no : is_open t k ≡ false = none k in cc;
  apart = λ j k n h g w v. let no : is_open t j ≡ false = none j in cc;
}

sound-Up : (t : Trace) → refusal t Up ≡ None → IsSound t → IsSound (t ++ Up ∷ [])
sound-Up t r old = up (is_cut t) refl
  where
    go : is_cut t ≡ false → (k : ℕ) (b : Bool) → is_open (t ++ Up ∷ []) k ≡ b → b ≡ false
    go c k false h = refl
    go c k true h = let was : is_open t k ≡ true = (still-open t Up k refl h).0 in let no : is_open t k ≡ false = old.quiet (already t _ r) c k in cc

    -- an Up that resumes keeps the orders
    up : (b : Bool) → is_cut t ≡ b → IsSound (t ++ Up ∷ [])
    up false c = silent (t ++ Up ∷ []) (λ k. go c k (is_open (t ++ Up ∷ []) k) refl)
    up true c =
        let more : orders (t ++ Up ∷ []) ≡ orders t + 0 = orders-push t Up ∙ ap (λ b. cond (not b) 0 (orders t + 0)) c in
        let u : is_up (t ++ Up ∷ []) ≡ true = is_up-push t Up ∙ or-true (is_up t) in
        keeps t Up (λ d f. cc) refl (omega arith) old

sound-Down : (t : Trace) → IsSound t → IsSound (t ++ Down ∷ [])
sound-Down t old = silent (t ++ Down ∷ []) (λ k. go k (is_open (t ++ Down ∷ []) k) refl)
  where
    go : (k : ℕ) (b : Bool) → is_open (t ++ Down ∷ []) k ≡ b → b ≡ false
    go k false h = refl
    go k true h =
        let was : (is_open t k ≡ true) × (ends_at k (next t Down) ≡ false) = still-open t Down k refl h in
        let below : nat_lt k (commands t) ≡ true = and-left _ _ was.0 in
        let ends : ends_at k (next t Down) ≡ true = ap (λ b. b && true) below in
        cc

sound-Go : (t : Trace) → refusal t Go ≡ None → IsSound t → IsSound (t ++ Go ∷ [])
sound-Go t r old =
    let u : is_up t ≡ true = not-up t _ r in
    let u' : is_up (t ++ Go ∷ []) ≡ true = is_up-push t Go ∙ ap (λ b. b || false) u in
    record {
      quiet = λ d f. cc;
      ordered = λ k n h w. ordered k n (open-before k h) (ordered-before k n w);
      apart = λ j k n hj hk wj wk. apart j k n (open-before j hj) (open-before k hk) (ordered-before j n wj) (ordered-before k n wk);
    }
  where
    grow : commands (t ++ Go ∷ []) ≡ commands t + 1
    grow = commands-push t Go

    more : orders (t ++ Go ∷ []) ≡ orders t + 1
    more = orders-push t Go

    -- open before, or started now
    open-before : (k : ℕ) → is_open (t ++ Go ∷ []) k ≡ true → (is_open t k ≡ true) ⊎ (k ≡ commands t)
    open-before k h = go (cases_lt k (commands t))
      where
        go : (k < commands t) ⊎ (commands t ≤ k) → (is_open t k ≡ true) ⊎ (k ≡ commands t)
        go (inl l) = inl (and-left _ _ (sym (is_open-push t Go k l) ∙ h))
        go (inr l) = let inside : k < commands (t ++ Go ∷ []) = open-is-started (t ++ Go ∷ []) k h in inr (omega (arith, grow))

    ordered-before : (k n : ℕ) → was_order (t ++ Go ∷ []) k n ≡ true → (was_order t k n ≡ true) ⊎ ((commands t ≡ k) × (orders t ≡ n))
    ordered-before k n w = elim (or_cases (was_order t k n) ((commands t == k) && (orders t == n)) (sym (was_order-push t Go k n) ∙ w)) [
      | inl h ↦ inl h
      | inr h ↦ inr (eqb-true _ _ (and-left _ _ h), eqb-true _ _ (and-right _ _ h))
    ]

    -- a command that isn't started has no order
    unordered : (k n : ℕ) → was_order t k n ≡ true → k < commands t
    unordered k n w = go (cases_lt k (commands t))
      where
        go : (k < commands t) ⊎ (commands t ≤ k) → k < commands t
        go (inl l) = l
        go (inr l) = let no : was_order t k n ≡ false = (not-started t k l).no_order n in cc

    ordered : (k n : ℕ) → (is_open t k ≡ true) ⊎ (k ≡ commands t) → (was_order t k n ≡ true) ⊎ ((commands t ≡ k) × (orders t ≡ n)) → n < orders (t ++ Go ∷ [])
    ordered k n (inl h) (inl w) = let l : n < orders t = old.ordered k n h w in omega (arith, more)
    ordered k n (inr h) (inl w) = let l : k < commands t = unordered k n w in absurd (omega arith)
    ordered k n h (inr w) = omega (arith, more)

    apart : (j k n : ℕ) → (is_open t j ≡ true) ⊎ (j ≡ commands t) → (is_open t k ≡ true) ⊎ (k ≡ commands t) → (was_order t j n ≡ true) ⊎ ((commands t ≡ j) × (orders t ≡ n)) → (was_order t k n ≡ true) ⊎ ((commands t ≡ k) × (orders t ≡ n)) → j ≡ k
    apart j k n (inl hj) (inl hk) (inl wj) (inl wk) = old.apart j k n hj hk wj wk
    apart j k n (inr hj) hk (inl wj) wk = let l : j < commands t = unordered j n wj in absurd (omega arith)
    apart j k n hj (inr hk) wj (inl wk) = let l : k < commands t = unordered k n wk in absurd (omega arith)
    apart j k n (inl hj) hk (inl wj) (inr wk) = let l : n < orders t = old.ordered j n hj wj in absurd (omega arith)
    apart j k n hj (inl hk) (inr wj) (inl wk) = let l : n < orders t = old.ordered k n hk wk in absurd (omega arith)
    apart j k n hj hk (inr wj) (inr wk) = omega arith

sound-Stop : (t : Trace) (j : ℕ) → refusal t (Stop j) ≡ None → IsSound t → IsSound (t ++ Stop j ∷ [])
sound-Stop t j r old =
    let u : is_up t ≡ true = not-up t _ r in
    let more : orders (t ++ Stop j ∷ []) ≡ orders t + 1 = orders-push t (Stop j) in
    let u' : is_up (t ++ Stop j ∷ []) ≡ true = is_up-push t (Stop j) ∙ ap (λ b. b || false) u in
    keeps t (Stop j) (λ d f. cc) refl (omega arith) old

sound-In : (t : Trace) (n : ℕ) (body : Body) → refusal t (In n body) ≡ None → IsSound t → IsSound (t ++ In n body ∷ [])
sound-In t n body r old =
    let u : is_up t ≡ true = not-up t _ r in
    let more : orders (t ++ In n body ∷ []) ≡ orders t + 0 = orders-push t (In n body) in
    let u' : is_up (t ++ In n body ∷ []) ≡ true = is_up-push t (In n body) ∙ ap (λ b. b || false) u in
    keeps t (In n body) (λ d f. cc) refl (omega arith) old

sound-Cut : (t : Trace) → IsSound t → IsSound (t ++ Cut ∷ [])
sound-Cut t old =
    let more : orders (t ++ Cut ∷ []) ≡ orders t + 0 = orders-push t Cut in
    let c : is_cut (t ++ Cut ∷ []) ≡ true = is_cut-push t Cut ∙ or-true (is_cut t) in
    keeps t Cut (λ d f. cc) refl (omega arith) old

sound-push : (t : Trace) (e : Event) → refusal t e ≡ None → IsSound t → IsSound (t ++ e ∷ [])
sound-push t Up r old = sound-Up t r old
sound-push t Down r old = sound-Down t old
sound-push t Cut r old = sound-Cut t old
sound-push t Go r old = sound-Go t r old
sound-push t (Stop j) r old = sound-Stop t j r old
sound-push t (In n body) r old = sound-In t n body r old

pub none-from : {A : Type 0} (o : Option A) → is_none o ≡ true → o ≡ None
none-from None h = refl
none-from (Some x) h = cc

pub sound : (t : Trace) → was_taken t ≡ true → IsSound t
sound = snoc_induction (λ t. was_taken t ≡ true → IsSound t) (λ h. silent [] start) step
  where
    start : (k : ℕ) → is_open [] k ≡ false
    start k = let above : nat_lt k 0 ≡ false = grind (arith, nat_tests) in ap (λ b. b && true) above

    step : (t : Trace) (e : Event) → (was_taken t ≡ true → IsSound t) → was_taken (t ++ e ∷ []) ≡ true → IsSound (t ++ e ∷ [])
    step t e ih h =
        let both : (was_taken t && is_none (refusal t e)) ≡ true = sym (was_taken-push t e) ∙ h in
        sound-push t e (none-from (refusal t e) (and-right (was_taken t) (is_none (refusal t e)) both)) (ih (and-left (was_taken t) (is_none (refusal t e)) both))

-- The start of a command, and the beginning of a session.
use Rattle.std.proofs.Common.{◌≡◌, refl, sym, ◌∙◌, ap, subst, ℕ, ◌+◌, ◌≤◌, ◌<◌, Bool, true, false, cond, not, ◌||◌, ◌&&◌, List, [], ◌∷◌, ◌++◌, length, take, drop, Some, None, arith, inl, inr}
use Rattle.std.specs.Prelude.{◌⊎◌, ◌==◌, nat_lt, nat_le, is_none}
use Rattle.std.specs.Option.{option_or}
use Rattle.std.proofs.lemmas.Bool.{eqb-true, or_cases}
use Rattle.std.proofs.lemmas.Bool.Decides.{nat_tests}
use Rattle.std.proofs.lemmas.List.{take-append-drop}
use Rattle.bm_session.proofs.Snoc.{and-true}
use Rattle.bm_session.proofs.Pushed.{next, commands-push, is_new-push, ending-push}
use Rattle.bm_session.proofs.Taken.{is_open-push, not-started, not-up, ends-no}
use Rattle.bm_session.proofs.Visible.{IsPrefix-refl}
use Rattle.bm_session.specs.declared.event.Event.TheVariants.{Up, Go}
use Rattle.bm_lines.specs.Lines.{Line}
use Rattle.bm_lines.specs.Names.{stdio}
use mathlib.Core.List.{IsPrefix}
use Rattle.bm_session.specs.Trace.{Trace, commands, ends_at, ending, is_open, is_up, is_cut, is_new, log, joined, refusal}
use Rattle.bm_work.specs.Stream.{said}
use Rattle.bm_replay.specs.Schedule.{Worker, new_worker, has_run, have_ended, was_started, was_refused, requests_taken}
use Rattle.bm_replay.proofs.Lists.{or-left, or-first, front-empty}
use Rattle.bm_replay.proofs.Sessions.{was_started-push, requests_taken-push, was_refused-push, started-below}
use Rattle.bm_replay.proofs.Agreement.{Agree, log-prefix, said-append}
use Rattle.bm_replay.proofs.Quiet.{taken-next, log-stays}

-- a start

pub takes-Go : (f : ℕ → List Line) (t : Trace) (w : Worker) → refusal t Go ≡ None → Agree f t w → Agree f (t ++ Go ∷ []) w
takes-Go f t w a s = record {
  taken = taken-next t Go s.taken a;
  few = let l : requests_taken t ≤ length w.reports = s.few in omega (arith, count);
  numbered = λ n. is_new-push t Go n ∙ and-true (is_new t n) ∙ s.numbered n ∙ ap (λ i. nat_le i n) (sym count);
  started = λ k x. was_started-push t Go k ∙ or-first (was_started t k) (commands t == k) (s.started k x);
  unrefused = λ k x. was_refused-push t Go k ∙ ap (λ b. b || false) (s.unrefused k x);
  asked = s.asked;
  unasked = s.unasked;
  opened = λ k l st en rf. opened k (which k st) (ap (λ i. have_ended (take i w.reports) k) (sym count) ∙ en) (or-left (was_refused t k) false (sym (was_refused-push t Go k) ∙ rf));
  logged = λ k st. log-stays t Go k refl ∙ logged k (which k st) ∙ ap (λ i. said (take i w.reports) k) (sym count);
  said_here = λ k st. said_here k (which k st);
  said_before = λ k st. subst (λ l. IsPrefix l (f k)) (sym (log-stays t Go k refl)) (s.said_before k (or-left (was_started t k) (commands t == k) (sym (was_started-push t Go k) ∙ st)));
  unsaid = λ k l. s.unsaid k (omega (arith, more));
}
  where
    more : commands (t ++ Go ∷ []) ≡ commands t + 1
    more = commands-push t Go

    count : requests_taken (t ++ Go ∷ []) ≡ requests_taken t
    count = requests_taken-push t Go ∙ omega arith

    which : (k : ℕ) → was_started (t ++ Go ∷ []) k ≡ true → (was_started t k ≡ true) ⊎ (commands t ≡ k)
    which k st = elim (or_cases (was_started t k) (commands t == k) (sym (was_started-push t Go k) ∙ st)) [
      | inl x ↦ inl x
      | inr x ↦ inr (eqb-true (commands t) k x)
    ]

    -- the new command did not run
    idle : (b : Bool) → has_run w (commands t) ≡ b → b ≡ false
    idle false x = refl
    idle true x = let l : commands t < commands t = started-below t (commands t) (s.started (commands t) x) in absurd (omega arith)

    silent : said w.reports (commands t) ≡ []
    silent = s.unasked (commands t) (idle (has_run w (commands t)) refl)

    opened : (k : ℕ) → (was_started t k ≡ true) ⊎ (commands t ≡ k) → have_ended (take (requests_taken t) w.reports) k ≡ false → was_refused t k ≡ false → is_open (t ++ Go ∷ []) k ≡ true
    opened k (inl st) en rf =
        let was : is_open t k ≡ true = s.opened k (or-first (is_up t) (is_cut t) (not-up t _ a)) st en rf in
        is_open-push t Go k (started-below t k st) ∙ ap (λ b. b && not (ends_at k (next t Go))) was ∙ ap not (ends-no t k).1
    opened k (inr e) en rf =
        let inside : k < commands (t ++ Go ∷ []) = omega (arith, more) in
        let below : nat_lt k (commands (t ++ Go ∷ [])) ≡ true = grind (arith, nat_tests) in
        ap (λ b. b && is_none (ending (t ++ Go ∷ []) k)) below
        ∙ ap (λ o. is_none o) (ending-push t Go k)
        ∙ ap (λ o. is_none (option_or o (cond (ends_at k (next t Go)) (Some (next t Go)) None))) (not-started t k (omega arith)).no_end
        ∙ ap (λ b. is_none (cond b (Some (next t Go)) None)) (ends-no t k).1

    logged : (k : ℕ) → (was_started t k ≡ true) ⊎ (commands t ≡ k) → log t k stdio ≡ said (take (requests_taken t) w.reports) k
    logged k (inl st) = s.logged k st
    logged k (inr e) =
        let none : said w.reports k ≡ [] = subst (λ i. said w.reports i ≡ []) e silent in
        let split : said (take (requests_taken t) w.reports) k ++ said (drop (requests_taken t) w.reports) k ≡ [] =
        sym (said-append (take (requests_taken t) w.reports) (drop (requests_taken t) w.reports) k) ∙ ap (λ rs. said rs k) (take-append-drop (requests_taken t) w.reports) ∙ none in
        ap joined ((not-started t k (omega arith)).no_blocks stdio) ∙ sym (front-empty (said (take (requests_taken t) w.reports) k) (said (drop (requests_taken t) w.reports) k) split)

    said_here : (k : ℕ) → (was_started t k ≡ true) ⊎ (commands t ≡ k) → f k ≡ said w.reports k
    said_here k (inl st) = s.said_here k st
    said_here k (inr e) = s.unsaid k (omega arith) ∙ sym (subst (λ i. said w.reports i ≡ []) e silent)

-- a session begins, with a new worker

pub takes-Up : (f : ℕ → List Line) (t : Trace) (w : Worker) → refusal t Up ≡ None → is_cut t ≡ false → Agree f t w → Agree f (t ++ Up ∷ []) new_worker
takes-Up f t w a c s = record {
  taken = taken-next t Up s.taken a;
  few = omega (arith, count);
  numbered = λ n. is_new-push t Up n ∙ ap (λ b. cond (not b) true (is_new t n && true)) c ∙ sym (ap (λ i. nat_le i n) count ∙ least n);
  started = λ k x. cc;
  unrefused = λ k x. cc;
  asked = λ n r x. cc;
  unasked = λ k x. refl;
  opened = λ k l st en rf. let no : was_started (t ++ Up ∷ []) k ≡ false = none k in cc;
  logged = λ k st. let no : was_started (t ++ Up ∷ []) k ≡ false = none k in cc;
  said_here = λ k st. let no : was_started (t ++ Up ∷ []) k ≡ false = none k in cc;
  said_before = λ k st. subst (λ l. IsPrefix l (f k)) (sym (log-stays t Up k refl)) (log-prefix f t w s k);
  unsaid = λ k l. s.unsaid k (omega (arith, more));
}
  where
    more : commands (t ++ Up ∷ []) ≡ commands t + 0
    more = commands-push t Up

    count : requests_taken (t ++ Up ∷ []) ≡ 0
    count = requests_taken-push t Up ∙ ap (λ b. cond (not b) 0 (requests_taken t + 0)) c

    least : (n : ℕ) → nat_le 0 n ≡ true
    least n = grind (arith, nat_tests)

    none : (k : ℕ) → was_started (t ++ Up ∷ []) k ≡ false
    none k = was_started-push t Up k ∙ ap (λ b. cond (not b) false (was_started t k || false)) c

-- nothing has happened

pub agree-at-first : Agree (λ k. []) [] new_worker
agree-at-first = record {
  taken = refl;
  few = omega arith;
  numbered = λ n. sym (least n);
  started = λ k x. cc;
  unrefused = λ k x. cc;
  asked = λ n r x. cc;
  unasked = λ k x. refl;
  opened = λ k l st en rf. cc;
  logged = λ k st. cc;
  said_here = λ k st. cc;
  said_before = λ k st. IsPrefix-refl [];
  unsaid = λ k l. refl;
}
  where
    least : (n : ℕ) → nat_le 0 n ≡ true
    least n = grind (arith, nat_tests)

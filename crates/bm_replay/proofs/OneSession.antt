-- Where no session was given up, all commands are of one session.
use Rattle.std.proofs.Common.{◌≡◌, refl, sym, ◌∙◌, ap, ℕ, ◌+◌, ◌≤◌, ◌<◌, Bool, true, false, cond, ◌||◌, ◌&&◌, not, [], ◌∷◌, ◌++◌, None, arith, inl, inr}
use Rattle.std.specs.Prelude.{◌⊎◌, ◌==◌, is_none}
use Rattle.std.specs.List.{list_any}
use Rattle.std.proofs.lemmas.Bool.{eq-eqb, cases_lt}
use Rattle.bm_session.proofs.Snoc.{snoc_induction, list_any-push, or-true}
use Rattle.bm_session.proofs.Pushed.{next, commands-push, is_up-push, is_cut-push}
use Rattle.bm_session.proofs.Taken.{and-left, and-right, was_taken-push, none-from, not-up, already}
use Rattle.bm_session.specs.declared.event.Event.{Event}
use Rattle.bm_session.specs.declared.event.Event.TheVariants.{Up, In, Go, Stop, Cut, Down}
use Rattle.bm_session.specs.Events.{is_go, is_down_event}
use Rattle.bm_session.specs.Trace.{Trace, begins_session, commands, is_up, is_cut, was_taken, refusal, starts}
use Rattle.bm_replay.specs.Schedule.{was_started}
use Rattle.bm_replay.proofs.Lists.{or-left, or-right, or-first, or-second}
use Rattle.bm_replay.proofs.Sessions.{was_started-push}
use Rattle.bm_replay.proofs.Quiet.{is_live}

pub record IsOneSession (t : Trace) : Type 0 where
  pub all : (k : ℕ) → k < commands t → was_started t k ≡ true
  pub quiet : is_live t ≡ false → commands t ≡ 0

live-up : (t : Trace) → is_up t ≡ true → is_live t ≡ false → ⊥
live-up t u l = let yes : is_live t ≡ true = or-first (is_up t) (is_cut t) u in cc

live-cut : (t : Trace) → is_cut t ≡ true → is_live t ≡ false → ⊥
live-cut t u l = let yes : is_live t ≡ true = or-second (is_up t) (is_cut t) u in cc

-- an event that starts nothing and begins nothing
stays-one : (t : Trace) (e : Event) → is_go e ≡ false → begins_session (next t e) ≡ false → (is_live (t ++ e ∷ []) ≡ false → ⊥) → IsOneSession t → IsOneSession (t ++ e ∷ [])
stays-one t e g b live s =
    let more : commands (t ++ e ∷ []) ≡ commands t + 0 = commands-push t e ∙ ap (λ x. commands t + cond x 1 0) g in
    record {
      all = λ k l. was_started-push t e k ∙ ap (λ x. cond x false (was_started t k || starts k (next t e))) b ∙ or-first (was_started t k) (starts k (next t e)) (s.all k (omega arith));
      quiet = λ l. absurd (live l);
    }

one-session-push : (t : Trace) (e : Event) → refusal t e ≡ None → is_down_event e ≡ false → IsOneSession t → IsOneSession (t ++ e ∷ [])
one-session-push t Down r d s = cc
one-session-push t Cut r d s = stays-one t Cut refl refl (live-cut (t ++ Cut ∷ []) (is_cut-push t Cut ∙ or-true (is_cut t))) s
one-session-push t (Stop j) r d s = stays-one t (Stop j) refl refl (live-up (t ++ Stop j ∷ []) (is_up-push t (Stop j) ∙ or-first (is_up t) false (not-up t _ r))) s
one-session-push t (In n body) r d s = stays-one t (In n body) refl refl (live-up (t ++ In n body ∷ []) (is_up-push t (In n body) ∙ or-first (is_up t) false (not-up t _ r))) s
one-session-push t Go r d s = record {
  all = λ k l. was_started-push t Go k ∙ go k l (cases_lt k (commands t));
  quiet = λ l. absurd (live-up (t ++ Go ∷ []) (is_up-push t Go ∙ or-first (is_up t) false (not-up t _ r)) l);
}
  where
    more : commands (t ++ Go ∷ []) ≡ commands t + 1
    more = commands-push t Go

    go : (k : ℕ) → k < commands (t ++ Go ∷ []) → (k < commands t) ⊎ (commands t ≤ k) → (was_started t k || (commands t == k)) ≡ true
    go k l (inl x) = or-first (was_started t k) (commands t == k) (s.all k x)
    go k l (inr x) = or-second (was_started t k) (commands t == k) (eq-eqb (commands t) k (omega (arith, more)))
one-session-push t Up r d s = go (is_cut t) refl
  where
    live : is_up (t ++ Up ∷ []) ≡ true
    live = is_up-push t Up ∙ or-true (is_up t)

    go : (b : Bool) → is_cut t ≡ b → IsOneSession (t ++ Up ∷ [])
    go true c = stays-one t Up refl (ap not c) (live-up (t ++ Up ∷ []) live) s
    go false c =
        let dead : is_live t ≡ false = rw (already t _ r, c) refl in
        let none : commands t ≡ 0 = s.quiet dead in
        let more : commands (t ++ Up ∷ []) ≡ commands t + 0 = commands-push t Up in
        record { all = λ k l. absurd (omega arith); quiet = λ l. absurd (live-up (t ++ Up ∷ []) live l) }

pub one-session : (t : Trace) → was_taken t ≡ true → list_any is_down_event t ≡ false → IsOneSession t
one-session = snoc_induction (λ t. was_taken t ≡ true → list_any is_down_event t ≡ false → IsOneSession t) (λ h d. record { all = λ k l. absurd (omega arith); quiet = λ l. refl }) push
  where
    push : (t : Trace) (e : Event) → (was_taken t ≡ true → list_any is_down_event t ≡ false → IsOneSession t) → was_taken (t ++ e ∷ []) ≡ true → list_any is_down_event (t ++ e ∷ []) ≡ false → IsOneSession (t ++ e ∷ [])
    push t e ih h d =
        let both : (was_taken t && is_none (refusal t e)) ≡ true = sym (was_taken-push t e) ∙ h in
        let none : (list_any is_down_event t || is_down_event e) ≡ false = sym (list_any-push is_down_event t e) ∙ d in
        one-session-push t e (none-from (refusal t e) (and-right (was_taken t) (is_none (refusal t e)) both)) (or-right (list_any is_down_event t) (is_down_event e) none)
        (ih (and-left (was_taken t) (is_none (refusal t e)) both) (or-left (list_any is_down_event t) (is_down_event e) none))

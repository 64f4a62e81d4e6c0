-- Events that leave the agreement as it is: they take no new number, and start and end nothing.
use Rattle.std.proofs.Common.{◌≡◌, refl, sym, ◌∙◌, ap, subst, ℕ, ◌+◌, ◌≤◌, Bool, true, false, cond, not, ◌||◌, ◌&&◌, List, [], ◌∷◌, ◌++◌, length, take, None, arith}
use Rattle.std.specs.Prelude.{◌==◌, nat_lt, nat_le, is_none}
use Rattle.std.proofs.lemmas.List.{append-nil}
use Rattle.bm_session.proofs.Snoc.{and-false, and-true, or-false}
use Rattle.bm_session.proofs.Pushed.{next, commands-push, is_new-push, is_up-push, is_cut-push, log-push}
use Rattle.bm_session.proofs.Taken.{was_taken-push, is_open-push, not-up}
use Rattle.bm_session.specs.declared.event.Event.{Event}
use Rattle.bm_session.specs.declared.event.Event.TheVariants.{Up, In, Stop, Cut, Down}
use Rattle.bm_session.specs.declared.event.Body.TheVariants.{Answered}
use Rattle.bm_lines.specs.Lines.{Line}
use Rattle.bm_lines.specs.Names.{stdio}
use Rattle.bm_lines.specs.LineBatches.{blocks_under}
use Rattle.bm_session.specs.Events.{is_go, is_down_event, is_complete_of, is_update_of, batch_of}
use mathlib.Core.List.{IsPrefix}
use Rattle.bm_session.specs.Trace.{Trace, begins_session, starts, refuses, commands, ends_at, is_open, is_up, is_cut, is_new, is_fresh, log, joined, was_taken, refusal}
use Rattle.bm_work.specs.Stream.{said}
use Rattle.bm_replay.specs.Schedule.{Worker, has_run, have_ended, was_started, was_refused, requests_taken}
use Rattle.bm_replay.proofs.Lists.{or-left, or-right, or-first, or-second}
use Rattle.bm_replay.proofs.Sessions.{was_started-push, requests_taken-push, was_refused-push, started-below}
use Rattle.bm_replay.proofs.Agreement.{Agree}

abbrev pub is_live : Trace → Bool
is_live t = is_up t || is_cut t

pub taken-next : (t : Trace) (e : Event) → was_taken t ≡ true → refusal t e ≡ None → was_taken (t ++ e ∷ []) ≡ true
taken-next t e h r = was_taken-push t e ∙ ap (λ b. b && is_none (refusal t e)) h ∙ ap (λ o. is_none o) r

-- an event that isn't fresh adds no line
pub log-stays : (t : Trace) (e : Event) (k : ℕ) → is_fresh (next t e) ≡ false → log (t ++ e ∷ []) k stdio ≡ log t k stdio
log-stays t e k h =
    log-push t e k stdio
    ∙ ap (λ b. log t k stdio ++ joined (cond (b && is_update_of k e && is_open t k) (blocks_under stdio (batch_of e)) [])) h
    ∙ append-nil (log t k stdio)

pub nothing-ends : (a d f q r : Bool) → d ≡ false → (f && q) ≡ false → r ≡ false → (a && (d || (f && q) || r)) ≡ false
nothing-ends a d f q r hd hf hr = rw (hd, hf, hr) (and-false a)

-- it takes no new number, starts nothing and ends nothing of a worker
pub record IsQuiet (t : Trace) (e : Event) : Type 0 where
  pub accepted : refusal t e ≡ None
  pub stays : begins_session (next t e) ≡ false
  pub not_go : is_go e ≡ false
  pub not_fresh : is_fresh (next t e) ≡ false
  pub same_numbers : (n : ℕ) → is_new (t ++ e ∷ []) n ≡ is_new t n
  pub live : is_live (t ++ e ∷ []) ≡ true → (is_live t ≡ true) × (is_down_event e ≡ false)

pub takes-quiet : (f : ℕ → List Line) (t : Trace) (w : Worker) (e : Event) → IsQuiet t e → ((k : ℕ) → has_run w k ≡ true → refuses t k e ≡ false) → Agree f t w → Agree f (t ++ e ∷ []) w
takes-quiet f t w e q unref s = record {
  taken = taken-next t e s.taken q.accepted;
  few = let l : requests_taken t ≤ length w.reports = s.few in omega (arith, count);
  numbered = λ n. q.same_numbers n ∙ s.numbered n ∙ ap (λ h. nat_le h n) (sym count);
  started = λ k h. same k ∙ s.started k h;
  unrefused = λ k h. was_refused-push t e k ∙ rw (s.unrefused k h, unref k h) refl;
  asked = s.asked;
  unasked = s.unasked;
  opened = λ k l st en rf. opened k l (sym (same k) ∙ st) (ap (λ h. have_ended (take h w.reports) k) (sym count) ∙ en) (sym (was_refused-push t e k) ∙ rf);
  logged = λ k st. log-stays t e k q.not_fresh ∙ s.logged k (sym (same k) ∙ st) ∙ ap (λ h. said (take h w.reports) k) (sym count);
  said_here = λ k st. s.said_here k (sym (same k) ∙ st);
  said_before = λ k st. subst (λ l. IsPrefix l (f k)) (sym (log-stays t e k q.not_fresh)) (s.said_before k (sym (same k) ∙ st));
  unsaid = λ k l. s.unsaid k (omega (arith, more));
}
  where
    more : commands (t ++ e ∷ []) ≡ commands t + 0
    more = commands-push t e ∙ ap (λ b. commands t + cond b 1 0) q.not_go

    count : requests_taken (t ++ e ∷ []) ≡ requests_taken t
    count =
        requests_taken-push t e ∙ ap (λ b. cond b 0 (requests_taken t + cond (is_fresh (next t e)) 1 0)) q.stays
        ∙ ap (λ b. requests_taken t + cond b 1 0) q.not_fresh ∙ omega arith

    same : (k : ℕ) → was_started (t ++ e ∷ []) k ≡ was_started t k
    same k =
        was_started-push t e k ∙ ap (λ b. cond b false (was_started t k || starts k (next t e))) q.stays
        ∙ ap (λ b. was_started t k || (b && (commands t == k))) q.not_go ∙ or-false (was_started t k)

    opened : (k : ℕ) → is_live (t ++ e ∷ []) ≡ true → was_started t k ≡ true → have_ended (take (requests_taken t) w.reports) k ≡ false → (was_refused t k || refuses t k e) ≡ false → is_open (t ++ e ∷ []) k ≡ true
    opened k l st en rf =
        let was : is_open t k ≡ true = s.opened k (q.live l).0 st en (or-left (was_refused t k) (refuses t k e) rf) in
        let ends : ends_at k (next t e) ≡ false = nothing-ends (nat_lt k (commands t)) (is_down_event e) (is_fresh (next t e)) (is_complete_of k e) (refuses t k e) (q.live l).1 (ap (λ b. b && is_complete_of k e) q.not_fresh) (or-right (was_refused t k) (refuses t k e) rf) in
        is_open-push t e k (started-below t k st) ∙ ap (λ b. b && not (ends_at k (next t e))) was ∙ ap not ends

-- Which events are quiet

pub live-In : (t : Trace) (e : Event) → is_up t ≡ true → is_down_event e ≡ false → is_live (t ++ e ∷ []) ≡ true → (is_live t ≡ true) × (is_down_event e ≡ false)
live-In t e u d l = (or-first (is_up t) (is_cut t) u, d)

pub quiet-Stop : (t : Trace) (j : ℕ) → refusal t (Stop j) ≡ None → IsQuiet t (Stop j)
quiet-Stop t j r = record {
  accepted = r;
  stays = refl;
  not_go = refl;
  not_fresh = refl;
  same_numbers = λ n. is_new-push t (Stop j) n ∙ and-true (is_new t n);
  live = live-In t (Stop j) (not-up t _ r) refl;
}

pub quiet-Cut : (t : Trace) → refusal t Cut ≡ None → IsQuiet t Cut
quiet-Cut t r = record {
  accepted = r;
  stays = refl;
  not_go = refl;
  not_fresh = refl;
  same_numbers = λ n. is_new-push t Cut n ∙ and-true (is_new t n);
  live = live-In t Cut (not-up t _ r) refl;
}

pub quiet-Down : (t : Trace) → refusal t Down ≡ None → IsQuiet t Down
quiet-Down t r = record {
  accepted = r;
  stays = refl;
  not_go = refl;
  not_fresh = refl;
  same_numbers = λ n. is_new-push t Down n ∙ and-true (is_new t n);
  live = λ l. let d : is_up (t ++ Down ∷ []) ≡ false = is_up-push t Down in
      let g : is_cut (t ++ Down ∷ []) ≡ false = is_cut-push t Down in
      let no : is_live (t ++ Down ∷ []) ≡ false = rw (d, g) refl in cc;
}

-- an Up that resumes
pub quiet-Up : (t : Trace) → refusal t Up ≡ None → is_cut t ≡ true → IsQuiet t Up
quiet-Up t r c = record {
  accepted = r;
  stays = ap not c;
  not_go = refl;
  not_fresh = refl;
  same_numbers = λ n. is_new-push t Up n ∙ ap (λ b. cond (not b) true (is_new t n && true)) c ∙ and-true (is_new t n);
  live = λ l. (or-second (is_up t) (is_cut t) c, refl);
}

pub quiet-Answered : (t : Trace) (n : ℕ) (fault : Bool) → refusal t (In n (Answered fault)) ≡ None → IsQuiet t (In n (Answered fault))
quiet-Answered t n fault r = record {
  accepted = r;
  stays = refl;
  not_go = refl;
  not_fresh = refl;
  same_numbers = λ m. is_new-push t (In n (Answered fault)) m ∙ and-true (is_new t m);
  live = live-In t (In n (Answered fault)) (not-up t _ r) refl;
}

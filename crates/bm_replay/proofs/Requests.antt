-- A request of the worker that its lane takes, for the first time or again.
use Rattle.std.proofs.Common.{◌≡◌, refl, sym, ◌∙◌, ap, subst, ℕ, ◌+◌, ◌<◌, Bool, true, false, cond, not, ◌||◌, ◌&&◌, List, [], ◌∷◌, ◌++◌, length, take, Option, Some, None, arith}
use Rattle.std.specs.Prelude.{◌==◌, nat_lt, nat_le, slice_get}
use Rattle.std.proofs.lemmas.Bool.{eqb-true}
use Rattle.std.proofs.lemmas.Bool.Decides.{nat_tests}
use Rattle.std.proofs.lemmas.List.{append-nil}
use Rattle.std.proofs.lemmas.Option.{slice_get_within}
use Rattle.bm_session.proofs.Snoc.{list_any-push, and-false, and-true, or-false}
use Rattle.bm_session.proofs.Pushed.{next, added, commands-push, is_new-push, log-push}
use Rattle.bm_session.proofs.Taken.{is_open-push, not-up}
use Rattle.bm_session.proofs.Visible.{same-arms}
use Rattle.bm_session.specs.declared.event.Event.{Event}
use Rattle.bm_lines.specs.Lines.{Line, lines_of}
use Rattle.bm_lines.specs.Names.{stdio}
use Rattle.bm_lines.specs.LineBatches.{blocks_under}
use Rattle.bm_session.specs.Events.{is_go, is_down_event, is_request, request_number, is_complete_of, is_update_of, batch_of}
use mathlib.Core.List.{IsPrefix}
use Rattle.bm_session.specs.Trace.{Trace, begins_session, updates, starts, refuses, commands, ends_at, is_open, is_up, is_cut, is_new, is_new_number, is_fresh, log, joined, refusal}
use Rattle.bm_work.specs.Stream.{Report, text, code, over, said}
use Rattle.bm_replay.specs.Schedule.{command_of, Worker, as_heard, is_end_of, has_run, have_ended, was_started, was_refused, requests_taken}
use Rattle.bm_replay.proofs.Lists.{take-next, or-left, or-right, or-first}
use Rattle.bm_replay.proofs.Sessions.{was_started-push, requests_taken-push, was_refused-push, started-below, open-is-here}
use Rattle.bm_replay.proofs.Agreement.{Agree, said-append}
use Rattle.bm_replay.proofs.Quiet.{is_live, taken-next, takes-quiet, nothing-ends, live-In}

-- what a request is at the master
pub record IsAsked (t : Trace) (n : ℕ) (r : Report) (e : Event) : Type 0 where
  pub numbers : (m : ℕ) → is_request m e ≡ (n == m)
  pub number : request_number e ≡ Some n
  pub stays : begins_session (next t e) ≡ false
  pub not_go : is_go e ≡ false
  pub not_down : is_down_event e ≡ false
  pub unrefusing : (k : ℕ) → refuses t k e ≡ false
  pub up : refusal t e ≡ None → is_up t ≡ true
  pub completes : (k : ℕ) → is_complete_of k e ≡ is_end_of k r
  pub adds : (k : ℕ) → is_new t n ≡ true → (command_of r ≡ k → is_open t k ≡ true) → joined (added t k stdio e) ≡ said (r ∷ []) k

pub asked-event : (t : Trace) (n : ℕ) (r : Report) → IsAsked t n r (as_heard n r)
asked-event t n (text j letter said_text) = record {
  numbers = λ m. refl;
  number = refl;
  stays = refl;
  not_go = refl;
  not_down = refl;
  unrefusing = λ k. refl;
  up = λ h. not-up t _ h;
  completes = λ k. refl;
  adds = λ k fresh runs_on. go k fresh runs_on (j == k) refl;
}
  where
    go : (k : ℕ) → is_new t n ≡ true → (j ≡ k → is_open t k ≡ true) → (b : Bool) → (j == k) ≡ b → joined (cond (is_new t n && b && is_open t k) (lines_of letter said_text ∷ []) []) ≡ cond b (lines_of letter said_text) [] ++ []
    go k fresh runs_on true e =
        let o : is_open t k ≡ true = runs_on (eqb-true j k e) in
        rw (fresh, o)
    go k fresh runs_on false e = ap (λ b. joined (cond (b && is_open t k) (lines_of letter said_text ∷ []) [])) (and-false (is_new t n))
asked-event t n (code j rc) = record {
  numbers = λ m. refl;
  number = refl;
  stays = refl;
  not_go = refl;
  not_down = refl;
  unrefusing = λ k. refl;
  up = λ h. not-up t _ h;
  completes = λ k. refl;
  adds = λ k fresh runs_on. ap joined (same-arms (updates k (next t (as_heard n (code j rc)))) []);
}
asked-event t n (over j fault) = record {
  numbers = λ m. refl;
  number = refl;
  stays = refl;
  not_go = refl;
  not_down = refl;
  unrefusing = λ k. refl;
  up = λ h. not-up t _ h;
  completes = λ k. refl;
  adds = λ k fresh runs_on. ap joined (same-arms (updates k (next t (as_heard n (over j fault)))) []);
}

-- a request that was taken before

pub takes-again : (f : ℕ → List Line) (t : Trace) (w : Worker) (n : ℕ) (r : Report) → n < requests_taken t → refusal t (as_heard n r) ≡ None → Agree f t w → Agree f (t ++ as_heard n r ∷ []) w
takes-again f t w n r l a s =
    takes-quiet f t w e (record {
      accepted = a;
      stays = q.stays;
      not_go = q.not_go;
      not_fresh = not_fresh (request_number e) q.number;
      same_numbers = λ m. is_new-push t e m ∙ ap (λ b. cond b true (is_new t m && not (is_request m e))) q.stays ∙ ap (λ b. is_new t m && not b) (q.numbers m) ∙ same m (n == m) refl;
      live = live-In t e (q.up a) q.not_down;
    }) (λ k h. q.unrefusing k) s
  where
    e : Event
    e = as_heard n r

    q : IsAsked t n r e
    q = asked-event t n r

    had : is_new t n ≡ false
    had = s.numbered n ∙ grind (arith, nat_tests)

    not_fresh : (o : Option ℕ) → o ≡ Some n → is_new_number t o ≡ false
    not_fresh None h = cc
    not_fresh (Some m) h = let same : m ≡ n = cc in subst (λ i. is_new t i ≡ false) (sym same) had

    same : (m : ℕ) (b : Bool) → (n == m) ≡ b → (is_new t m && not b) ≡ is_new t m
    same m false g = and-true (is_new t m)
    same m true g =
        let was : is_new t m ≡ false = subst (λ i. is_new t i ≡ false) (eqb-true n m g) had in
        and-false (is_new t m) ∙ sym was

-- the next request

pub takes-next : (f : ℕ → List Line) (t : Trace) (w : Worker) (r : Report) → slice_get w.reports (requests_taken t) ≡ Some r → refusal t (as_heard (requests_taken t) r) ≡ None → Agree f t w → Agree f (t ++ as_heard (requests_taken t) r ∷ []) w
takes-next f t w r g a s = record {
  taken = taken-next t e s.taken a;
  few = let l : requests_taken t < length w.reports = slice_get_within w.reports h r g in omega (arith, count);
  numbered = λ n. is_new-push t e n ∙ ap (λ b. cond b true (is_new t n && not (is_request n e))) q.stays ∙ ap (λ b. is_new t n && not b) (q.numbers n) ∙ ap (λ b. b && not (h == n)) (s.numbered n) ∙ past n ∙ ap (λ i. nat_le i n) (sym count);
  started = λ k x. same k ∙ s.started k x;
  unrefused = λ k x. was_refused-push t e k ∙ rw (s.unrefused k x, q.unrefusing k) refl;
  asked = s.asked;
  unasked = s.unasked;
  opened = λ k l st en rf. opened k (sym (same k) ∙ st) (ended k (sym (ap (λ rs. have_ended rs k) more) ∙ en)) (sym (was_refused-push t e k) ∙ rf);
  logged = λ k st. log-push t e k stdio ∙ ap (λ l. l ++ joined (added t k stdio e)) (s.logged k (sym (same k) ∙ st)) ∙ ap (λ l. said (take h w.reports) k ++ l) (q.adds k fresh (λ j. subst (λ i. is_open t i ≡ true) j its_open)) ∙ sym (ap (λ rs. said rs k) more ∙ said-append (take h w.reports) (r ∷ []) k);
  said_here = λ k st. s.said_here k (sym (same k) ∙ st);
  said_before = λ k st. before k (sym (same k) ∙ st);
  unsaid = λ k l. s.unsaid k (omega (arith, commands-same));
}
  where
    h : ℕ
    h = requests_taken t

    e : Event
    e = as_heard (requests_taken t) r

    q : IsAsked t (requests_taken t) r (as_heard (requests_taken t) r)
    q = asked-event t (requests_taken t) r

    fresh : is_new t (requests_taken t) ≡ true
    fresh = s.numbered (requests_taken t) ∙ grind (arith, nat_tests)

    is_fresh-here : (o : Option ℕ) → o ≡ Some (requests_taken t) → is_new_number t o ≡ true
    is_fresh-here None x = cc
    is_fresh-here (Some m) x = let same : m ≡ requests_taken t = cc in subst (λ i. is_new t i ≡ true) (sym same) fresh

    count : requests_taken (t ++ as_heard (requests_taken t) r ∷ []) ≡ requests_taken t + 1
    count =
        requests_taken-push t (as_heard (requests_taken t) r) ∙ ap (λ b. cond b 0 (requests_taken t + cond (is_fresh (next t (as_heard (requests_taken t) r))) 1 0)) q.stays
        ∙ ap (λ b. requests_taken t + cond b 1 0) (is_fresh-here (request_number (as_heard (requests_taken t) r)) q.number)

    more : take (requests_taken (t ++ as_heard (requests_taken t) r ∷ [])) w.reports ≡ take (requests_taken t) w.reports ++ r ∷ []
    more = ap (λ n. take n w.reports) count ∙ take-next (requests_taken t) w.reports r g

    commands-same : commands (t ++ as_heard (requests_taken t) r ∷ []) ≡ commands t + 0
    commands-same = commands-push t (as_heard (requests_taken t) r) ∙ ap (λ b. commands t + cond b 1 0) q.not_go

    past : (n : ℕ) → (nat_le (requests_taken t) n && not (requests_taken t == n)) ≡ nat_le (requests_taken t + 1) n
    past n = grind (arith, nat_tests)

    same : (k : ℕ) → was_started (t ++ as_heard (requests_taken t) r ∷ []) k ≡ was_started t k
    same k =
        was_started-push t (as_heard (requests_taken t) r) k ∙ ap (λ b. cond b false (was_started t k || starts k (next t (as_heard (requests_taken t) r)))) q.stays
        ∙ ap (λ b. was_started t k || (b && (commands t == k))) q.not_go ∙ or-false (was_started t k)

    ended : (k : ℕ) → have_ended (take (requests_taken t) w.reports ++ r ∷ []) k ≡ false → (have_ended (take (requests_taken t) w.reports) k ≡ false) × (is_end_of k r ≡ false)
    ended k x =
        let both : (have_ended (take (requests_taken t) w.reports) k || is_end_of k r) ≡ false = sym (list_any-push (is_end_of k) (take (requests_taken t) w.reports) r) ∙ x in
        (or-left (have_ended (take (requests_taken t) w.reports) k) (is_end_of k r) both, or-right (have_ended (take (requests_taken t) w.reports) k) (is_end_of k r) both)

    live : is_live t ≡ true
    live = or-first (is_up t) (is_cut t) (q.up a)

    -- its command is open
    its_open : is_open t (command_of r) ≡ true
    its_open =
        let ran : has_run w (command_of r) ≡ true = (s.asked (requests_taken t) r g).0 in
        s.opened (command_of r) live (s.started (command_of r) ran) (s.asked (requests_taken t) r g).1 (s.unrefused (command_of r) ran)

    opened : (k : ℕ) → was_started t k ≡ true → (have_ended (take (requests_taken t) w.reports) k ≡ false) × (is_end_of k r ≡ false) → (was_refused t k || refuses t k (as_heard (requests_taken t) r)) ≡ false → is_open (t ++ as_heard (requests_taken t) r ∷ []) k ≡ true
    opened k st en rf =
        let was : is_open t k ≡ true = s.opened k live st en.0 (or-left (was_refused t k) (refuses t k (as_heard (requests_taken t) r)) rf) in
        let on : is_complete_of k (as_heard (requests_taken t) r) ≡ false = q.completes k ∙ en.1 in
        let ends : ends_at k (next t (as_heard (requests_taken t) r)) ≡ false = nothing-ends (nat_lt k (commands t)) (is_down_event (as_heard (requests_taken t) r)) (is_fresh (next t (as_heard (requests_taken t) r))) (is_complete_of k (as_heard (requests_taken t) r)) (refuses t k (as_heard (requests_taken t) r)) q.not_down (ap (λ b. is_fresh (next t (as_heard (requests_taken t) r)) && b) on ∙ and-false (is_fresh (next t (as_heard (requests_taken t) r)))) (q.unrefusing k) in
        is_open-push t (as_heard (requests_taken t) r) k (started-below t k st) ∙ ap (λ b. b && not (ends_at k (next t (as_heard (requests_taken t) r)))) was ∙ ap not ends

    -- a command of another session is not open
    before : (k : ℕ) → was_started t k ≡ false → IsPrefix (log (t ++ as_heard (requests_taken t) r ∷ []) k stdio) (f k)
    before k st = subst (λ l. IsPrefix l (f k)) (sym stays) (s.said_before k st)
      where
        closed : (b : Bool) → is_open t k ≡ b → b ≡ false
        closed false x = refl
        closed true x = let yes : was_started t k ≡ true = open-is-here t s.taken k x in cc

        stays : log (t ++ as_heard (requests_taken t) r ∷ []) k stdio ≡ log t k stdio
        stays =
            log-push t (as_heard (requests_taken t) r) k stdio
            ∙ ap (λ b. log t k stdio ++ joined (cond (is_fresh (next t (as_heard (requests_taken t) r)) && is_update_of k (as_heard (requests_taken t) r) && b) (blocks_under stdio (batch_of (as_heard (requests_taken t) r))) [])) (closed (is_open t k) refl)
            ∙ ap (λ b. log t k stdio ++ joined (cond b (blocks_under stdio (batch_of (as_heard (requests_taken t) r))) [])) (and-false (is_fresh (next t (as_heard (requests_taken t) r)) && is_update_of k (as_heard (requests_taken t) r)))
            ∙ append-nil (log t k stdio)

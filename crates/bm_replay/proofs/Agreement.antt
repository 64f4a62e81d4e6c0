-- What was said, a lane's trace and the worker's side of its session agree; and what the worker
-- does keeps that.
use Rattle.std.proofs.Common.{◌≡◌, refl, sym, ◌∙◌, ap, subst, ℕ, ◌≤◌, ◌<◌, Bool, true, false, cond, ◌||◌, List, [], ◌∷◌, ◌++◌, length, take, drop, Some, None, arith, inl, inr, append_assoc}
use Rattle.std.specs.Prelude.{◌==◌, nat_le, slice_get}
use Rattle.std.proofs.lemmas.Bool.{eqb-true, or_cases}
use Rattle.std.proofs.lemmas.List.{append-nil, take-append-drop, take-append-le, take_all, length_push}
use Rattle.std.proofs.lemmas.List.Concat.{flat_map-append}
use Rattle.std.proofs.lemmas.Option.{slice_get_within}
use mathlib.Core.Path.{fun_ext}
use Rattle.bm_session.proofs.Snoc.{list_any-push}
use Rattle.bm_session.proofs.Visible.{IsPrefix-more}
use Rattle.bm_lines.specs.Lines.{Line, lines_of}
use Rattle.bm_lines.specs.Names.{stdio}
use mathlib.Core.List.{IsPrefix}
use Rattle.bm_session.specs.Trace.{Trace, commands, is_open, is_up, is_cut, is_new, log, was_taken}
use Rattle.bm_work.specs.declared.sent.Finish.{Finish as Ending}
use Rattle.bm_work.specs.declared.sent.Finish.TheVariants.{Rc, Fault}
use Rattle.bm_work.specs.Reports.{reports_of}
use Rattle.bm_work.specs.Stream.{Report, text, code, over, lines_in, said}
use Rattle.bm_replay.specs.Schedule.{Worker, command_of, has_run, have_ended, is_end_of, with_run, with_reports, was_started, was_refused, requests_taken}
use Rattle.bm_replay.proofs.Lists.{slice_get-push, or-left, or-first}
use Rattle.bm_replay.proofs.Sessions.{started-below}

pub said-append : (first second : List Report) (k : ℕ) → said (first ++ second) k ≡ said first k ++ said second k
said-append first second k = flat_map-append (lines_in k) first second

-- the lines said for each command, the trace, and the worker's side of its session
pub record Agree (f : ℕ → List Line) (t : Trace) (w : Worker) : Type 0 where
  pub taken : was_taken t ≡ true
  -- the numbers that the session had are those of the first requests
  pub few : requests_taken t ≤ length w.reports
  pub numbered : (n : ℕ) → is_new t n ≡ nat_le (requests_taken t) n
  -- a command runs after its start, where that was not refused
  pub started : (k : ℕ) → has_run w k ≡ true → was_started t k ≡ true
  pub unrefused : (k : ℕ) → has_run w k ≡ true → was_refused t k ≡ false
  -- a request is of a command that ran and had not ended
  pub asked : (n : ℕ) (r : Report) → slice_get w.reports n ≡ Some r → (has_run w (command_of r) ≡ true) × (have_ended (take n w.reports) (command_of r) ≡ false)
  pub unasked : (k : ℕ) → has_run w k ≡ false → said w.reports k ≡ []
  -- a command of the session is open till its end is taken
  pub opened : (k : ℕ) → (is_up t || is_cut t) ≡ true → was_started t k ≡ true → have_ended (take (requests_taken t) w.reports) k ≡ false → was_refused t k ≡ false → is_open t k ≡ true
  -- its log is what the requests that were taken said, of all that was said
  pub logged : (k : ℕ) → was_started t k ≡ true → log t k stdio ≡ said (take (requests_taken t) w.reports) k
  pub said_here : (k : ℕ) → was_started t k ≡ true → f k ≡ said w.reports k
  -- an older one's stays
  pub said_before : (k : ℕ) → was_started t k ≡ false → IsPrefix (log t k stdio) (f k)
  pub unsaid : (k : ℕ) → commands t ≤ k → f k ≡ []

pub log-prefix : (f : ℕ → List Line) (t : Trace) (w : Worker) → Agree f t w → (k : ℕ) → IsPrefix (log t k stdio) (f k)
log-prefix f t w s k = go (was_started t k) refl
  where
    h : ℕ
    h = requests_taken t

    go : (b : Bool) → was_started t k ≡ b → IsPrefix (log t k stdio) (f k)
    go true g = (
      said (drop (requests_taken t) w.reports) k,
      ap (λ l. l ++ said (drop (requests_taken t) w.reports) k) (s.logged k g)
          ∙ sym (said-append (take (requests_taken t) w.reports) (drop (requests_taken t) w.reports) k)
          ∙ ap (λ rs. said rs k) (take-append-drop (requests_taken t) w.reports)
          ∙ sym (s.said_here k g),
    )
    go false g = s.said_before k g

pub log-whole : (f : ℕ → List Line) (t : Trace) (w : Worker) → Agree f t w → (k : ℕ) → was_started t k ≡ true → requests_taken t ≡ length w.reports → log t k stdio ≡ f k
log-whole f t w s k g e = s.logged k g ∙ ap (λ rs. said rs k) (take_all (requests_taken t) w.reports (omega arith)) ∙ sym (s.said_here k g)

pub agrees-same : (f g : ℕ → List Line) (t : Trace) (w : Worker) → ((k : ℕ) → f k ≡ g k) → Agree f t w → Agree g t w
agrees-same f g t w h s = subst (λ j. Agree j t w) (fun_ext h) s

-- the worker runs a command, and reports of it

run-other : (w : Worker) (j k : ℕ) → has_run (with_run j w) k ≡ (has_run w k || (j == k))
run-other w j k = list_any-push (λ i. i == k) w.ran j

pub runs : (f : ℕ → List Line) (t : Trace) (w : Worker) (j : ℕ) → was_started t j ≡ true → was_refused t j ≡ false → Agree f t w → Agree f t (with_run j w)
runs f t w j st rf s = record {
  taken = s.taken;
  few = s.few;
  numbered = s.numbered;
  started = λ k h. elim (or_cases (has_run w k) (j == k) (sym (run-other w j k) ∙ h)) [
    | inl a ↦ s.started k a
    | inr a ↦ subst (λ i. was_started t i ≡ true) (eqb-true j k a) st
  ];
  unrefused = λ k h. elim (or_cases (has_run w k) (j == k) (sym (run-other w j k) ∙ h)) [
    | inl a ↦ s.unrefused k a
    | inr a ↦ subst (λ i. was_refused t i ≡ false) (eqb-true j k a) rf
  ];
  asked = λ n r g. (run-other w j (command_of r) ∙ or-first (has_run w (command_of r)) (j == command_of r) (s.asked n r g).0, (s.asked n r g).1);
  unasked = λ k h. s.unasked k (or-left (has_run w k) (j == k) (sym (run-other w j k) ∙ h));
  opened = s.opened;
  logged = s.logged;
  said_here = s.said_here;
  said_before = s.said_before;
  unsaid = s.unsaid;
}

-- a report of another command
pub lines-other : (k : ℕ) (r : Report) → (command_of r == k) ≡ false → said (r ∷ []) k ≡ []
lines-other k (text j letter t) h = ap (λ b. cond b (lines_of letter t) [] ++ []) h
lines-other k (code j z) h = refl
lines-other k (over j fault) h = refl

pub asks : (f : ℕ → List Line) (t : Trace) (w : Worker) (r : Report) → has_run w (command_of r) ≡ true → have_ended w.reports (command_of r) ≡ false → Agree f t w
    → Agree (λ k. f k ++ said (r ∷ []) k) t (with_reports (r ∷ []) w)
asks f t w r ran on s = record {
  taken = s.taken;
  few = rw (length_push w.reports r) (let l : requests_taken t ≤ length w.reports = s.few in omega arith);
  numbered = s.numbered;
  started = s.started;
  unrefused = s.unrefused;
  asked = asked;
  unasked = λ k h. said-append w.reports (r ∷ []) k ∙ ap (λ l. l ++ said (r ∷ []) k) (s.unasked k h) ∙ lines-other k r (other k h (command_of r == k) refl);
  opened = λ k l st en rf. s.opened k l st (ap (λ rs. have_ended rs k) (sym front) ∙ en) rf;
  logged = λ k st. s.logged k st ∙ ap (λ rs. said rs k) (sym front);
  said_here = λ k st. ap (λ l. l ++ said (r ∷ []) k) (s.said_here k st) ∙ sym (said-append w.reports (r ∷ []) k);
  said_before = λ k st. IsPrefix-more (log t k stdio) (f k) (said (r ∷ []) k) (s.said_before k st);
  unsaid = λ k l. ap (λ x. x ++ said (r ∷ []) k) (s.unsaid k l) ∙ lines-other k r (later k l (command_of r == k) refl);
}
  where
    front : take (requests_taken t) (w.reports ++ r ∷ []) ≡ take (requests_taken t) w.reports
    front = take-append-le (requests_taken t) w.reports (r ∷ []) s.few

    other : (k : ℕ) → has_run w k ≡ false → (b : Bool) → (command_of r == k) ≡ b → b ≡ false
    other k h false e = refl
    other k h true e =
        let same : command_of r ≡ k = eqb-true (command_of r) k e in
        let yes : has_run w k ≡ true = subst (λ i. has_run w i ≡ true) same ran in cc

    later : (k : ℕ) → commands t ≤ k → (b : Bool) → (command_of r == k) ≡ b → b ≡ false
    later k l false e = refl
    later k l true e =
        let same : command_of r ≡ k = eqb-true (command_of r) k e in
        let below : command_of r < commands t = started-below t (command_of r) (s.started (command_of r) ran) in
        absurd (omega arith)

    asked : (n : ℕ) (q : Report) → slice_get (w.reports ++ r ∷ []) n ≡ Some q → (has_run w (command_of q) ≡ true) × (have_ended (take n (w.reports ++ r ∷ [])) (command_of q) ≡ false)
    asked n q g = elim (slice_get-push w.reports r n q g) [
      | inl old ↦ (let l : n < length w.reports = slice_get_within w.reports n q old in
          let same : take n (w.reports ++ r ∷ []) ≡ take n w.reports = take-append-le n w.reports (r ∷ []) (omega arith) in
          ((s.asked n q old).0, ap (λ rs. have_ended rs (command_of q)) same ∙ (s.asked n q old).1))
      | inr p ↦ (let size : n ≡ length w.reports = p.0 in
          let same : take n (w.reports ++ r ∷ []) ≡ w.reports = take-append-le n w.reports (r ∷ []) (omega arith) ∙ take_all n w.reports (omega arith) in
          subst (λ x. (has_run w (command_of x) ≡ true) × (have_ended (take n (w.reports ++ r ∷ [])) (command_of x) ≡ false)) p.1 (ran, ap (λ rs. have_ended rs (command_of r)) same ∙ on))
    ]

-- the worker ends a command
pub ends : (f : ℕ → List Line) (t : Trace) (w : Worker) (k : ℕ) (ending : Ending) → has_run w k ≡ true → have_ended w.reports k ≡ false → Agree f t w
    → Agree (λ j. f j ++ said (reports_of k ending) j) t (with_reports (reports_of k ending) w)
ends f t w k (Fault fault) ran on s = asks f t w (over k (Some fault)) ran on s
ends f t w k (Rc z) ran on s =
    let first : Agree (λ j. f j ++ said (code k z ∷ []) j) t (with_reports (code k z ∷ []) w) = asks f t w (code k z) ran on s in
    let still : have_ended (w.reports ++ code k z ∷ []) k ≡ false = list_any-push (is_end_of k) w.reports (code k z) ∙ ap (λ b. b || false) on in
    let second : Agree (λ j. (f j ++ []) ++ []) t (with_reports (over k None ∷ []) (with_reports (code k z ∷ []) w)) =
    asks (λ j. f j ++ []) t (with_reports (code k z ∷ []) w) (over k None) ran still first in
    agrees-same (λ j. (f j ++ []) ++ []) (λ j. f j ++ []) t (with_reports (reports_of k (Rc z)) w) (λ j. append-nil (f j ++ []))
    (subst (λ rs. Agree (λ j. (f j ++ []) ++ []) t (record { ran = w.ran; reports = rs })) (append_assoc w.reports (code k z ∷ []) (over k None ∷ [])) second)

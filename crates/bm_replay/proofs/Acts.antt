-- Each act of a schedule keeps the agreement of what was said, the trace and the worker.
use Rattle.std.proofs.Common.{◌≡◌, refl, sym, subst, ℕ, ◌+◌, ◌≤◌, ◌<◌, Bool, true, false, cond, not, ◌&&◌, List, [], ◌∷◌, ◌++◌, length, Option, Some, None, arith, inl, inr}
use Rattle.std.specs.Prelude.{◌⊎◌, ◌==◌, nat_lt, nat_le, is_none, slice_get, option_map}
use Rattle.std.specs.List.{list_any}
use Rattle.std.proofs.lemmas.Bool.{eqb-true, or_cases, cases_lt}
use Rattle.std.proofs.lemmas.Bool.Decides.{nat_tests}
use Rattle.std.proofs.lemmas.List.{append-nil}
use Rattle.bm_lines.specs.Lines.{Line}
use Rattle.bm_session.proofs.Taken.{and-left, and-right}
use Rattle.bm_session.specs.declared.event.Event.{Event}
use Rattle.bm_session.specs.declared.event.Event.TheVariants.{Up, In, Go, Stop, Cut, Down}
use Rattle.bm_session.specs.declared.event.Body.TheVariants.{Answered}
use Rattle.bm_session.specs.declared.refusal.Refusal.{Refusal}
use Rattle.bm_session.specs.Trace.{Trace, is_cut, was_order, productive, refusal, reply}
use Rattle.bm_work.specs.Stream.{Report, text, said}
use Rattle.bm_world.specs.declared.answer.Answer.TheVariants.{Heard, Busy, Took, Empty}
use Rattle.bm_world.specs.declared.step.Step.TheVariants.{Hear, Drain, Look}
use Rattle.bm_world.specs.World.{World, heard, stepped, is_busy, Stepped}
use Rattle.bm_replay.specs.Schedule.{Worker, as_heard, new_worker, has_run, have_ended, is_running, with_run, Act, Run, Say, Finish, Deliver, Respond, Make, reported_by, Scene, is_allowed, after, lane_after, was_started, was_refused, requests_taken, is_new_session}
use Rattle.bm_replay.proofs.Lists.{or-left, or-right}
use Rattle.bm_replay.proofs.Agreement.{Agree, agrees-same, runs, asks, ends}
use Rattle.bm_replay.proofs.Quiet.{takes-quiet, quiet-Stop, quiet-Cut, quiet-Down, quiet-Up, quiet-Answered}
use Rattle.bm_replay.proofs.Requests.{takes-again, takes-next}
use Rattle.bm_replay.proofs.Starts.{takes-Go, takes-Up}

choose : (P : Trace → Type 0) (b : Bool) (x y : Stepped) → P x.1.trace → P y.1.trace → P (cond b x y).1.trace
choose P true x y p q = p
choose P false x y p q = q

-- what an event does to a trace: nothing, or it is taken
pub hear-cases : (w : World) (e : Event) (P : Trace → Type 0) → P w.trace → (refusal w.trace e ≡ None → P (w.trace ++ e ∷ [])) → P (stepped w (Hear e)).1.trace
hear-cases w e P old grown = go (refusal w.trace e) refl
  where
    go : (o : Option Refusal) → refusal w.trace e ≡ o → P (heard w e o).1.trace
    go (Some r) h = old
    go None h =
        choose P (is_busy w e) (Busy, w) (Heard (reply w.trace e), record { capacity = w.capacity; trace = w.trace ++ e ∷ []; shown = w.shown }) old (grown h)

-- a drain does nothing to it
pub drain-keeps : (w : World) (P : Trace → Type 0) → P w.trace → P (stepped w Drain).1.trace
drain-keeps w P old =
    choose P (nat_lt w.shown (productive w.trace)) (Took, record { capacity = w.capacity; trace = w.trace; shown = w.shown + 1 }) (Empty, w) old old

not-false : (b : Bool) → not b ≡ true → b ≡ false
not-false false h = refl
not-false true h = cc

-- of the commands that it ran none passes
none-passes : (p : ℕ → Bool) (ran : List ℕ) (k : ℕ) → list_any p ran ≡ false → list_any (λ j. j == k) ran ≡ true → p k ≡ false
none-passes p [] k h g = cc
none-passes p (j ∷ js) k h g = elim (or_cases (j == k) (list_any (λ i. i == k) js) g) [
  | inl e ↦ subst (λ i. p i ≡ false) (eqb-true j k e) (or-left (p j) (list_any p js) h)
  | inr e ↦ none-passes p js k (or-right (p j) (list_any p js) h) e
]

pub runs-on : (w : Worker) (k : ℕ) → is_running w k ≡ true → (has_run w k ≡ true) × (have_ended w.reports k ≡ false)
runs-on w k h = (and-left _ _ h, not-false (have_ended w.reports k) (and-right (has_run w k) (not (have_ended w.reports k)) h))

delivers : (f : ℕ → List Line) (s : Scene) (n : ℕ) → n ≤ requests_taken s.lane.trace → Agree f s.lane.trace s.worker → (o : Option Report) → slice_get s.worker.reports n ≡ o
    → Agree f (lane_after s.lane (option_map (λ r. Hear (as_heard n r)) o)).trace s.worker
delivers f s n l h None g = h
delivers f s n l h (Some r) g = hear-cases s.lane (as_heard n r) (λ t. Agree f t s.worker) h (λ a. go a (cases_lt n (requests_taken s.lane.trace)))
  where
    go : refusal s.lane.trace (as_heard n r) ≡ None → (n < requests_taken s.lane.trace) ⊎ (requests_taken s.lane.trace ≤ n) → Agree f (s.lane.trace ++ as_heard n r ∷ []) s.worker
    go a (inl less) = takes-again f s.lane.trace s.worker n r less a h
    go a (inr more) =
        let same : requests_taken s.lane.trace ≡ n = omega arith in
        subst (λ i. slice_get s.worker.reports i ≡ Some r → refusal s.lane.trace (as_heard i r) ≡ None → Agree f (s.lane.trace ++ as_heard i r ∷ []) s.worker)
        same (λ x y. takes-next f s.lane.trace s.worker r x y h) g a

begins : (f : ℕ → List Line) (s : Scene) → Agree f s.lane.trace s.worker → Agree f (stepped s.lane (Hear Up)).1.trace (cond (is_new_session s.lane.trace) new_worker s.worker)
begins f s h = go (refusal s.lane.trace Up) refl
  where
    go : (o : Option Refusal) → refusal s.lane.trace Up ≡ o → Agree f (heard s.lane Up o).1.trace (cond (is_none o && not (is_cut s.lane.trace)) new_worker s.worker)
    go (Some r) x = h
    go None x = up (is_cut s.lane.trace) refl
      where
        up : (b : Bool) → is_cut s.lane.trace ≡ b → Agree f (s.lane.trace ++ Up ∷ []) (cond (not b) new_worker s.worker)
        up true y = takes-quiet f s.lane.trace s.worker Up (quiet-Up s.lane.trace x y) (λ k z. refl) h
        up false y = takes-Up f s.lane.trace s.worker x y h

-- what an act by which nothing is said keeps
unsaying : (f : ℕ → List Line) (t : Trace) (w : Worker) → Agree f t w → Agree (λ k. f k ++ []) t w
unsaying f t w h = agrees-same f (λ k. f k ++ []) t w (λ k. sym (append-nil (f k))) h

pub keeps : (f : ℕ → List Line) (s : Scene) (a : Act) → is_allowed s a ≡ true → Agree f s.lane.trace s.worker
    → Agree (λ k. f k ++ said (reported_by a) k) (after s a).lane.trace (after s a).worker
keeps f s (Run k) ok h =
    let both : (was_started s.lane.trace k && not (was_refused s.lane.trace k)) ≡ true = and-left _ (not (has_run s.worker k)) ok in
    unsaying f s.lane.trace (with_run k s.worker)
    (runs f s.lane.trace s.worker k (and-left _ _ both) (not-false (was_refused s.lane.trace k) (and-right (was_started s.lane.trace k) (not (was_refused s.lane.trace k)) both)) h)
keeps f s (Say k letter t) ok h =
    let on : (has_run s.worker k ≡ true) × (have_ended s.worker.reports k ≡ false) = runs-on s.worker k ok in
    asks f s.lane.trace s.worker (text k letter t) on.0 on.1 h
keeps f s (Finish k ending) ok h =
    let on : (has_run s.worker k ≡ true) × (have_ended s.worker.reports k ≡ false) = runs-on s.worker k ok in
    ends f s.lane.trace s.worker k ending on.0 on.1 h
keeps f s (Deliver n) ok h =
    let test : nat_le n (requests_taken s.lane.trace) ≡ true = and-right (nat_lt n (length s.worker.reports)) (nat_le n (requests_taken s.lane.trace)) ok in
    let l : n ≤ requests_taken s.lane.trace = grind (arith, nat_tests) in
    unsaying f _ s.worker (delivers f s n l h (slice_get s.worker.reports n) refl)
keeps f s (Respond n true) ok h =
    unsaying f _ s.worker (hear-cases s.lane (In n (Answered true)) (λ t. Agree f t s.worker) h
    (λ a. takes-quiet f s.lane.trace s.worker (In n (Answered true)) (quiet-Answered s.lane.trace n true a)
    (λ k x. none-passes (λ j. was_order s.lane.trace j n) s.worker.ran k (not-false _ ok) x) h))
keeps f s (Respond n false) ok h =
    unsaying f _ s.worker (hear-cases s.lane (In n (Answered false)) (λ t. Agree f t s.worker) h
    (λ a. takes-quiet f s.lane.trace s.worker (In n (Answered false)) (quiet-Answered s.lane.trace n false a) (λ k x. refl) h))
keeps f s (Make (Hear Up)) ok h = unsaying f _ _ (begins f s h)
keeps f s (Make (Hear Go)) ok h = unsaying f _ s.worker (hear-cases s.lane Go (λ t. Agree f t s.worker) h (λ a. takes-Go f s.lane.trace s.worker a h))
keeps f s (Make (Hear (Stop j))) ok h =
    unsaying f _ s.worker (hear-cases s.lane (Stop j) (λ t. Agree f t s.worker) h (λ a. takes-quiet f s.lane.trace s.worker (Stop j) (quiet-Stop s.lane.trace j a) (λ k x. refl) h))
keeps f s (Make (Hear Cut)) ok h =
    unsaying f _ s.worker (hear-cases s.lane Cut (λ t. Agree f t s.worker) h (λ a. takes-quiet f s.lane.trace s.worker Cut (quiet-Cut s.lane.trace a) (λ k x. refl) h))
keeps f s (Make (Hear Down)) ok h =
    unsaying f _ s.worker (hear-cases s.lane Down (λ t. Agree f t s.worker) h (λ a. takes-quiet f s.lane.trace s.worker Down (quiet-Down s.lane.trace a) (λ k x. refl) h))
keeps f s (Make (Hear (In n body))) ok h = cc
keeps f s (Make Drain) ok h = unsaying f _ s.worker (drain-keeps s.lane (λ t. Agree f t s.worker) h)
keeps f s (Make (Look k name off lim)) ok h = unsaying f s.lane.trace s.worker h

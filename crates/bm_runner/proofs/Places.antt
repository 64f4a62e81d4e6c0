-- Lemmas on lists at a place, and on the step that is next there.
use Rattle.std.proofs.Common.{◌≡◌, ℕ, zero, suc, ◌+◌, ◌<◌, ◌≤◌, Bool, true, false, cond, List, [], ◌∷◌, ◌++◌, length, take, drop, get_or, set, replicate, Option, Some, None, refl, sym, ap, subst, ◌∙◌, arith, ◌==◌, inl, inr}
use Rattle.std.specs.List.{slice_get, position, position_from}
use Rattle.std.specs.Option.{option_map_or}
use Rattle.std.proofs.lemmas.Bool.{cases_Bool, false_from_ne_true, eqb-true, eqb-false}
use Rattle.std.proofs.lemmas.Option.{slice_get-get_or}
use Rattle.std.proofs.lemmas.List.{length-take-le, take_more, at_drop_all}
use Rattle.std.proofs.lemmas.List.Quantifiers.{position-Some}
use Rattle.std.proofs.lemmas.Iterator.Adapters.{position_from-zero}
use Rattle.std.proofs.Math.Seq.{drop-cons}
use Rattle.bm_session.specs.declared.results.Results.{Results}
use Rattle.bm_board.specs.declared.plan.StepPlan.{StepPlan}
use Rattle.bm_board.specs.declared.steps.Next.TheVariants.{Step, Ended}
use Rattle.bm_board.specs.Steps.{is_over, is_halted, runs, result_of, next_of}
use Rattle.bm_runner.specs.Run.{runs_at}

-- what is written at a place is read there
pub get-set_same : {X : Type 0} (xs : List X) (i : ℕ) (y : X) → i < length xs → slice_get (set xs i y) i ≡ Some y
get-set_same [] i y l = absurd (omega (arith, l))
get-set_same (x ∷ xs) zero y l = refl
get-set_same (x ∷ xs) (suc i) y l = get-set_same xs i y (omega (arith, l))

-- and nowhere else
pub get-set_other : {X : Type 0} (xs : List X) (i j : ℕ) (y : X) → (j ≡ i → ⊥) → slice_get (set xs i y) j ≡ slice_get xs j
get-set_other [] i j y n = refl
get-set_other (x ∷ xs) zero zero y n = absurd (n refl)
get-set_other (x ∷ xs) zero (suc j) y n = refl
get-set_other (x ∷ xs) (suc i) zero y n = refl
get-set_other (x ∷ xs) (suc i) (suc j) y n = get-set_other xs i j y (λ e. n (ap (λ k. suc k) e))

-- one element more
pub take_one : {X : Type 0} (xs : List X) (i : ℕ) (x : X) → i < length xs → slice_get xs i ≡ Some x → take (i + 1) xs ≡ take i xs ++ x ∷ []
take_one xs i x l e =
    let found = slice_get-get_or xs i x l in
    let same : get_or xs i x ≡ x = cc in
    take_more xs i x l ∙ ap (λ y. take i xs ++ y ∷ []) same

-- a test that the first element passes is first passed there
first_passes : {X : Type 0} (p : X → Bool) (x : X) (xs : List X) → p x ≡ true → position p (x ∷ xs) ≡ Some 0
first_passes p x xs h = position_from-zero p (x ∷ xs) ∙ ap (λ b. cond b (Some 0) (position_from p 1 xs)) h

-- the test of the step at a place, after the outcomes before it
abbrev test_at : List StepPlan → List Results → ℕ → StepPlan → Bool
test_at steps outcomes i = runs (is_over (take i outcomes)) (is_halted steps (take i outcomes))

-- what is next after the first outcomes, by the place at which a step first runs
next_by : (steps : List StepPlan) (outcomes : List Results) (i : ℕ) → i ≤ length outcomes → next_of steps (take i outcomes) ≡ option_map_or (λ skipped. Step (i + skipped)) (position (test_at steps outcomes i) (drop i steps)) (Ended (result_of steps (take i outcomes)))
next_by steps outcomes i l =
    ap (λ n. option_map_or (λ skipped. Step (n + skipped)) (position (test_at steps outcomes i) (drop n steps)) (Ended (result_of steps (take i outcomes)))) (length-take-le i outcomes l)

ended≢step : (result : Results) (i : ℕ) → Ended result ≡ Step i → ⊥
ended≢step result i h = cc

step_same : (i j : ℕ) → Step i ≡ Step j → i ≡ j
step_same i j h = cc

-- a step that is next is the first after the outcomes, if at its place
step_means : (i : ℕ) (found : Option ℕ) (result : Results) → option_map_or (λ skipped. Step (i + skipped)) found (Ended result) ≡ Step i → found ≡ Some 0
step_means i None result h = absurd (ended≢step result i h)
step_means i (Some k) result h =
    let same : i + k ≡ i = step_same (i + k) i h in
    ap (λ n. Some n) (omega (arith, same))

-- the step that is next runs
pub next_runs : (steps : List StepPlan) (outcomes : List Results) (i : ℕ) (d : StepPlan) → i < length steps → i ≤ length outcomes → next_of steps (take i outcomes) ≡ Step i → runs_at steps outcomes i ≡ true
next_runs steps outcomes i d l lo h =
    let found = step_means i (position (test_at steps outcomes i) (drop i steps)) (result_of steps (take i outcomes)) (sym (next_by steps outcomes i lo) ∙ h) in
    let here = subst (λ xs. position (test_at steps outcomes i) xs ≡ Some 0) (drop-cons steps i d l) found in
    ap (λ o. option_map_or (test_at steps outcomes i) o false) (slice_get-get_or steps i d l) ∙ (position-Some (test_at steps outcomes i) (get_or steps i d ∷ drop (suc i) steps) 0 d here).1

-- a step that isn't next doesn't run
pub next_skips : (steps : List StepPlan) (outcomes : List Results) (i : ℕ) (d : StepPlan) → i < length steps → i ≤ length outcomes → (next_of steps (take i outcomes) ≡ Step i → ⊥) → runs_at steps outcomes i ≡ false
next_skips steps outcomes i d l lo n =
    false_from_ne_true (runs_at steps outcomes i) (λ h.
    let passes : test_at steps outcomes i (get_or steps i d) ≡ true = sym (ap (λ o. option_map_or (test_at steps outcomes i) o false) (slice_get-get_or steps i d l)) ∙ h in
    let found = ap (λ xs. position (test_at steps outcomes i) xs) (drop-cons steps i d l) ∙ first_passes (test_at steps outcomes i) (get_or steps i d) (drop (suc i) steps) passes in
    n (next_by steps outcomes i lo ∙ ap (λ o. option_map_or (λ skipped. Step (i + skipped)) o (Ended (result_of steps (take i outcomes)))) found ∙ ap (λ k. Step k) (omega arith)))

-- what is written over the last element
pub set-last : {X : Type 0} (before : List X) (x y : X) → set (before ++ x ∷ []) (length before) y ≡ before ++ y ∷ []
set-last [] x y = refl
set-last (b ∷ before) x y = ap (λ xs. b ∷ xs) (set-last before x y)

-- the last element
pub get-last : {X : Type 0} (before : List X) (x d : X) → get_or (before ++ x ∷ []) (length before) d ≡ x
get-last [] x d = refl
get-last (b ∷ before) x d = get-last before x d

-- each element of a list of equals
pub get-replicate : {X : Type 0} (n : ℕ) (x : X) (i : ℕ) → i < n → slice_get (replicate n x) i ≡ Some x
get-replicate zero x i l = absurd (omega (arith, l))
get-replicate (suc n) x zero l = refl
get-replicate (suc n) x (suc i) l = get-replicate n x i (omega (arith, l))

-- once each step has its outcome, the build is at its end
pub no_step_left : (steps : List StepPlan) (outcomes : List Results) → length outcomes ≡ length steps → next_of steps outcomes ≡ Ended (result_of steps outcomes)
no_step_left steps outcomes e =
    at_drop_all (λ rest. option_map_or (λ skipped. Step (length outcomes + skipped)) (position (runs (is_over outcomes) (is_halted steps outcomes)) rest) (Ended (result_of steps outcomes))) steps (length outcomes) (omega (arith, e))

-- the test whether the step at a place is next
pub next_here : (steps : List StepPlan) (outcomes : List Results) (i next : ℕ) (d : StepPlan) → i < length steps → i ≤ length outcomes → Step next ≡ next_of steps (take i outcomes) → (next == i) ≡ runs_at steps outcomes i
next_here steps outcomes i next d l lo h =
    elim (cases_Bool (next == i)) [
      | inl e ↦ e ∙ sym (next_runs steps outcomes i d l lo (sym h ∙ ap (λ k. Step k) (eqb-true next i e)))
      | inr e ↦ e ∙ sym (next_skips steps outcomes i d l lo (λ s. eqb-false next i e (step_same next i (h ∙ s))))
    ]

-- at the end of a build no step runs
pub none_here : (steps : List StepPlan) (outcomes : List Results) (i : ℕ) (result : Results) (d : StepPlan) → i < length steps → i ≤ length outcomes → Ended result ≡ next_of steps (take i outcomes) → false ≡ runs_at steps outcomes i
none_here steps outcomes i result d l lo h = sym (next_skips steps outcomes i d l lo (λ s. ended≢step result i (h ∙ s)))

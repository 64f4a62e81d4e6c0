-- Lemmas on a run of steps, one place after the other.
use Rattle.std.proofs.Common.{◌≡◌, ◌↔◌, ℕ, ◌+◌, ◌<◌, ◌≤◌, Bool, true, false, not, cond, ◌||◌, List, [], ◌∷◌, ◌++◌, length, take, map, set, replicate, All, Option, Some, None, refl, sym, ap, subst, ◌∙◌, arith, append_assoc, below_more, add-one}
use Rattle.std.specs.List.{slice_get}
use Rattle.std.specs.Option.{option_map_or}
use Rattle.std.proofs.lemmas.Bool.{true≢false, or_left, or_right, false_from_ne_true}
use Rattle.std.proofs.lemmas.List.{length-set, map-append, take-set-le, append-nil, length-append, length-replicate}
use Rattle.std.proofs.lemmas.List.Elements.{filter-append, All-append}
use Rattle.std.proofs.lemmas.List.Folds.{list_any-append}
use Rattle.std.proofs.Math.Seq.{take-suc-set, take-length}
use Rattle.bm_session.specs.declared.results.Results.{Results}
use Rattle.bm_session.specs.declared.results.Results.TheVariants.{Success, Warnings, Failure, Skipped, Exception, Retry, Cancelled}
use Rattle.bm_board.specs.declared.plan.StepPlan.{StepPlan}
use Rattle.bm_board.specs.declared.steps.Next.TheVariants.{Ended}
use Rattle.bm_board.specs.Steps.{is_over, is_retry, is_halted, runs, result_of, next_of}
use Rattle.bm_runner.specs.declared.port.Told.{Told}
use Rattle.bm_runner.specs.Run.{is_skipped, outcome_of, counted, runs_at, ran, told_outcomes, IsWaitedFor, IsStepRun, IsRun}
use Rattle.bm_runner.proofs.Places.{get-set_same, get-set_other, take_one, get-replicate, no_step_left}

-- a run that has come to a place: the outcomes before it are those of the steps, and the rest are
-- SKIPPED
pub record IsAt (steps : List StepPlan) (turns : ℕ) (before now : List Told) (refused : Bool) (outcomes : List Results) (i : ℕ) : Type 0 where
  pub entries : List Told
  pub told : now ≡ before ++ entries
  pub count : length outcomes ≡ length steps
  pub left : (j : ℕ) → i ≤ j → j < length steps → slice_get outcomes j ≡ Some Skipped
  pub skipped : (j : ℕ) → j < i → (slice_get outcomes j ≡ Some Skipped) ↔ (runs_at steps outcomes j ≡ false)
  pub known : ran (take i outcomes) ≡ told_outcomes entries refused
  pub over : refused ≡ true → is_over (take i outcomes) ≡ true
  pub waited : All (IsWaitedFor turns) entries

-- the place after a step that doesn't run
pub past_skipped : (steps : List StepPlan) (turns : ℕ) (before now : List Told) (refused : Bool) (outcomes : List Results) (i : ℕ) → i < length steps → runs_at steps outcomes i ≡ false → IsAt steps turns before now refused outcomes i → IsAt steps turns before now refused outcomes (i + 1)
past_skipped steps turns before now refused outcomes i l passed at =
    let here = at.left i (omega arith) l in
    let more = take_one outcomes i Skipped (omega (arith, l, at.count)) here in
    record {
      entries = at.entries;
      told = at.told;
      count = at.count;
      left = λ j low lj. at.left j (omega (arith, low)) lj;
      skipped = λ j lj. below_more (λ k. (slice_get outcomes k ≡ Some Skipped) ↔ (runs_at steps outcomes k ≡ false)) i at.skipped (λ _. passed, λ _. here) j lj;
      known = ap ran more ∙ filter-append (λ outcome. not (is_skipped outcome)) (take i outcomes) (Skipped ∷ []) ∙ append-nil (ran (take i outcomes)) ∙ at.known;
      over = λ h. ap is_over more ∙ list_any-append is_retry (take i outcomes) (Skipped ∷ []) ∙ ap (λ b. b || false) (at.over h);
      waited = at.waited;
    }

-- after RETRY no step runs
over_stops : (over halted : Bool) (found : Option StepPlan) → over ≡ true → option_map_or (runs over halted) found false ≡ false
over_stops over halted None h = refl
over_stops over halted (Some step) h = ap (λ b. runs b halted step) h

-- where a step runs, no start was refused
pub not_refused : (steps : List StepPlan) (turns : ℕ) (before now : List Told) (refused : Bool) (outcomes : List Results) (i : ℕ) → runs_at steps outcomes i ≡ true → IsAt steps turns before now refused outcomes i → refused ≡ false
not_refused steps turns before now refused outcomes i does at =
    false_from_ne_true refused (λ h. true≢false (sym does ∙ over_stops (is_over (take i outcomes)) (is_halted steps (take i outcomes)) (slice_get steps i) (at.over h)))

-- a command isn't skipped
counted_ran : (outcome : Results) → is_skipped (counted outcome) ≡ false
counted_ran Success = refl
counted_ran Warnings = refl
counted_ran Failure = refl
counted_ran Skipped = refl
counted_ran Exception = refl
counted_ran Retry = refl
counted_ran Cancelled = refl

ended_ran : (ended : Option Results) → is_skipped (option_map_or counted ended Exception) ≡ false
ended_ran None = refl
ended_ran (Some outcome) = counted_ran outcome

some_none : (o : Results) → o ∷ [] ≡ [] → ⊥
some_none o h = cc

same_head : (o p : Results) (os : List Results) → o ∷ [] ≡ p ∷ os → o ≡ p
same_head o p os h = cc

same_some : (o p : Results) → Some o ≡ Some p → o ≡ p
same_some o p h = cc

-- the outcome of a step that was run
run_alone : (entries : List Told) (refused : Bool) (o : Results) → o ∷ [] ≡ told_outcomes entries refused → is_skipped o ≡ false
run_alone [] true o h = let e : o ≡ Retry = cc in ap is_skipped e
run_alone [] false o h = absurd (some_none o h)
run_alone (entry ∷ entries) refused o h = ap is_skipped (same_head o (outcome_of entry) (map outcome_of entries ++ cond refused (Retry ∷ []) []) h) ∙ ended_ran entry.ended

-- a step whose start was refused is RETRY
refused_retries : (entries : List Told) (o : Results) → o ∷ [] ≡ told_outcomes entries true → is_retry o ≡ true
refused_retries [] o h = let e : o ≡ Retry = cc in ap is_retry e
refused_retries (entry ∷ entries) o h =
    absurd (omega (arith, ap length h, length-append (map outcome_of entries) (Retry ∷ [])))

-- the place after a step that ran
pub past_run : (steps : List StepPlan) (turns : ℕ) (before now later : List Told) (refused : Bool) (outcomes : List Results) (i : ℕ) (o : Results) → i < length steps → runs_at steps outcomes i ≡ true → IsStepRun turns now later refused o → IsAt steps turns before now false outcomes i → IsAt steps turns before later refused (set outcomes i o) (i + 1)
past_run steps turns before now later refused outcomes i o l does step at =
    let li : i < length outcomes = omega (arith, l, at.count) in
    let alone = run_alone step.entries refused o step.outcomes in
    let more : take (i + 1) (set outcomes i o) ≡ take i outcomes ++ o ∷ [] = rw add-one (take-suc-set outcomes i o li) in
    let as_before : (j : ℕ) → j ≤ i → runs_at steps (set outcomes i o) j ≡ runs_at steps outcomes j =
    λ j lj. ap (λ os. option_map_or (runs (is_over os) (is_halted steps os)) (slice_get steps j) false) (take-set-le j outcomes i o lj) in
    record {
      entries = at.entries ++ step.entries;
      told = step.told ∙ ap (λ t. t ++ step.entries) at.told ∙ append_assoc before at.entries step.entries;
      count = length-set outcomes i o ∙ at.count;
      left = λ j low lj. get-set_other outcomes i j o (λ e. absurd (omega (arith, low, e))) ∙ at.left j (omega (arith, low)) lj;
      skipped = λ j lj. below_more (λ k. (slice_get (set outcomes i o) k ≡ Some Skipped) ↔ (runs_at steps (set outcomes i o) k ≡ false)) i
          (λ k lk.
          let other = get-set_other outcomes i k o (λ e. absurd (omega (arith, lk, e))) in
          let same = as_before k (omega (arith, lk)) in
          (λ h. same ∙ (at.skipped k lk).0 (sym other ∙ h), λ h. other ∙ (at.skipped k lk).1 (sym same ∙ h))) (
            λ h. absurd (true≢false (sym (ap is_skipped (same_some o Skipped (sym (get-set_same outcomes i o li) ∙ h))) ∙ alone)),
            λ h. absurd (true≢false (sym does ∙ sym (as_before i (omega arith)) ∙ h)),
          )
          j lj;
      known = ap ran more ∙ filter-append (λ outcome. not (is_skipped outcome)) (take i outcomes) (o ∷ [])
          ∙ ap (λ b. ran (take i outcomes) ++ cond (not b) (o ∷ []) []) alone
          ∙ ap (λ os. os ++ o ∷ []) (at.known ∙ append-nil (map outcome_of at.entries))
          ∙ ap (λ os. map outcome_of at.entries ++ os) step.outcomes
          ∙ sym (append_assoc (map outcome_of at.entries) (map outcome_of step.entries) (cond refused (Retry ∷ []) []))
          ∙ ap (λ os. os ++ cond refused (Retry ∷ []) []) (sym (map-append outcome_of at.entries step.entries));
      over = λ h. ap is_over more ∙ list_any-append is_retry (take i outcomes) (o ∷ [])
          ∙ or_right (is_over (take i outcomes)) (is_retry o || false) (or_left (is_retry o) false (refused_retries step.entries o (subst (λ b. o ∷ [] ≡ told_outcomes step.entries b) h step.outcomes)));
      waited = All-append (IsWaitedFor turns) at.entries step.entries at.waited step.waited;
    }

-- the first place
pub at_start : (steps : List StepPlan) (turns : ℕ) (before : List Told) (refused : Bool) (outcomes : List Results) → refused ≡ false → outcomes ≡ replicate (length steps) Skipped → IsAt steps turns before before refused outcomes 0
at_start steps turns before refused outcomes accepts e =
    record {
      entries = [];
      told = sym (append-nil before);
      count = ap length e ∙ length-replicate (length steps) Skipped;
      left = λ j low lj. ap (λ os. slice_get os j) e ∙ get-replicate (length steps) Skipped j lj;
      skipped = λ j lj. absurd (omega (arith, lj));
      known = ap (λ b. told_outcomes [] b) (sym accepts);
      over = λ h. absurd (true≢false (sym h ∙ accepts));
      waited = λ k d l. absurd (omega (arith, l));
    }

same_end : (a b : Results) → Ended a ≡ Ended b → a ≡ b
same_end a b h = cc

-- the last place
pub at_end : (steps : List StepPlan) (turns : ℕ) (before now : List Told) (refused : Bool) (outcomes : List Results) (result : Results) → next_of steps outcomes ≡ Ended result → IsAt steps turns before now refused outcomes (length steps) → IsRun steps turns before now refused (record { outcomes = outcomes; result = result })
at_end steps turns before now refused outcomes result e at =
    record {
      entries = at.entries;
      told = at.told;
      count = at.count;
      skipped = at.skipped;
      outcomes = ap ran (sym (ap (λ n. take n outcomes) (sym at.count) ∙ take-length outcomes)) ∙ at.known;
      waited = at.waited;
      result = same_end result (result_of steps outcomes) (sym e ∙ no_step_left steps outcomes at.count);
    }

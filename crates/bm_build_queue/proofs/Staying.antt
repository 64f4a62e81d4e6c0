-- A result stays, whatever is done to the builds.
use Rattle.std.proofs.Common.{◌≡◌, ℕ, zero, suc, true, false, List, [], ◌∷◌, Option, Some, None, Result, Ok, Err, slice_set, refl, sym, ap, ◌∙◌}
use Rattle.std.specs.List.{slice_get}
use Rattle.std.specs.Option.{option_map_or, is_some}
use Rattle.std.proofs.lemmas.Bool.{cond-false, true≢false}
use Rattle.bm_session.specs.declared.results.Results.{Results}
use Rattle.bm_board.specs.declared.scheduled_build.Phase.{Phase}
use Rattle.bm_board.specs.declared.scheduled_build.Phase.TheVariants.{Waiting, Running, Over}
use Rattle.bm_board.specs.declared.refusal.BoardRefusal.{BoardRefusal}
use Rattle.bm_board.specs.declared.refusal.BoardRefusal.TheVariants.{NoBuild}
use Rattle.bm_board.specs.ScheduledBuild.{BuildState, Outcome, job_after, is_waiting, result_in, finish, finish_in, cancel, cancel_in, release, release_in, give_up, give_up_in}
use Rattle.bm_board.specs.Board.{BoardState, board_after, on_build, start, result_on}
use Rattle.bm_build_queue.specs.Laws.{ResultsStay}

-- the result of a build that was looked up
abbrev look : Option BuildState → Result (Option Results) BoardRefusal
look o = option_map_or (λ job. Ok (result_in job.phase)) o (Err NoBuild)

abbrev told : Result (Option Results) BoardRefusal → Option Results
told (Ok o) = o
told (Err why) = None

abbrev found : Option BuildState → Option Results
found (Some job) = result_in job.phase
found None = None

-- a call leaves the result of a build that has one
abbrev Keeps : {T : Type 0} → (BuildState → Outcome T) → Type 0
Keeps call = (job : BuildState) (r : Results) → result_in job.phase ≡ Some r → result_in (job_after job (call job)).phase ≡ Some r

kept_set : (xs : List BuildState) (n m : ℕ) (y : BuildState) (r : Results)
    → ((x : BuildState) → slice_get xs m ≡ Some x → result_in x.phase ≡ Some r → result_in y.phase ≡ Some r)
    → look (slice_get xs n) ≡ Ok (Some r) → look (slice_get (slice_set xs m y) n) ≡ Ok (Some r)
kept_set [] n m y r k h = h
kept_set (x ∷ xs) zero zero y r k h = ap Ok (k x refl (ap told h))
kept_set (x ∷ xs) zero (suc m) y r k h = h
kept_set (x ∷ xs) (suc n) zero y r k h = h
kept_set (x ∷ xs) (suc n) (suc m) y r k h = kept_set xs n m y r k h

kept_outcome : {T : Type 0} (call : BuildState → Outcome T) → Keeps call → (b : BoardState) (n m : ℕ) (r : Results) (job : BuildState)
    → slice_get b.jobs m ≡ Some job → result_on b n ≡ Ok (Some r) → (out : Outcome T) → call job ≡ out
    → result_on (board_after b m out) n ≡ Ok (Some r)
kept_outcome call keeps b n m r job at h (Err why) e = h
kept_outcome call keeps b n m r job at h (Ok p) e =
    kept_set b.jobs n m p.0 r
    (λ x here has. sym (ap (λ o. result_in (job_after job o).phase) e) ∙ keeps job r (sym (ap found (sym here ∙ at)) ∙ has)) h

kept_at : {T : Type 0} (call : BuildState → Outcome T) → Keeps call → (b : BoardState) (n m : ℕ) (r : Results)
    → result_on b n ≡ Ok (Some r) → (o : Option BuildState) → slice_get b.jobs m ≡ o
    → result_on (board_after b m (option_map_or call o (Err NoBuild))) n ≡ Ok (Some r)
kept_at call keeps b n m r h None e = h
kept_at call keeps b n m r h (Some job) e = kept_outcome call keeps b n m r job e h (call job) refl

kept_call : {T : Type 0} (call : BuildState → Outcome T) → Keeps call → (b : BoardState) (n m : ℕ) (r : Results)
    → result_on b n ≡ Ok (Some r) → result_on (board_after b m (on_build call b m)) n ≡ Ok (Some r)
kept_call call keeps b n m r h = kept_at call keeps b n m r h (slice_get b.jobs m) refl

-- what waits or runs has no result
no_result : {P : Type 0} (r : Results) → ◌≡◌ {A = Option Results} None (Some r) → P
no_result r h = absurd (true≢false (sym (ap is_some h)))

on_finish : (p : Phase) (x : Results) (job : BuildState) (r : Results) → result_in p ≡ Some r → result_in job.phase ≡ Some r
    → result_in (job_after job (finish_in p x job)).phase ≡ Some r
on_finish Waiting x job r h g = no_result r h
on_finish (Running step cancelled) x job r h g = no_result r h
on_finish (Over result holds) x job r h g = g

on_release : (p : Phase) (job : BuildState) (r : Results) → result_in p ≡ Some r → result_in job.phase ≡ Some r
    → result_in (job_after job (release_in p job)).phase ≡ Some r
on_release Waiting job r h g = g
on_release (Running step cancelled) job r h g = g
on_release (Over result true) job r h g = h
on_release (Over result false) job r h g = g

on_cancel : (p : Phase) (job : BuildState) (r : Results) → result_in p ≡ Some r → result_in job.phase ≡ Some r
    → result_in (job_after job (cancel_in p job)).phase ≡ Some r
on_cancel Waiting job r h g = no_result r h
on_cancel (Running step cancelled) job r h g = no_result r h
on_cancel (Over result holds) job r h g = g

on_give_up : (p : Phase) (job : BuildState) (r : Results) → result_in p ≡ Some r → result_in job.phase ≡ Some r
    → result_in (job_after job (give_up_in p job)).phase ≡ Some r
on_give_up Waiting job r h g = no_result r h
on_give_up (Running step cancelled) job r h g = g
on_give_up (Over result holds) job r h g = g

not_waiting : (p : Phase) (r : Results) → result_in p ≡ Some r → is_waiting p ≡ false
not_waiting Waiting r h = no_result r h
not_waiting (Running step cancelled) r h = refl
not_waiting (Over result holds) r h = refl

on_start : (b : BoardState) → Keeps (start b)
on_start b job r h = ap (λ o. result_in (job_after job o).phase) (cond-false _ _ _ (not_waiting job.phase r h)) ∙ h

pub results_stay : ResultsStay
results_stay b n m r h = record {
  start = kept_call (start b) (on_start b) b n m r h;
  report = λ x. kept_call (finish x) (λ job q g. on_finish job.phase x job q g g) b n m r h;
  release = kept_call release (λ job q g. on_release job.phase job q g g) b n m r h;
  cancel = kept_call cancel (λ job q g. on_cancel job.phase job q g g) b n m r h;
  give_up = kept_call give_up (λ job q g. on_give_up job.phase job q g g) b n m r h;
}

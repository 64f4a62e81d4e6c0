-- Each build on the board of a queue stays one step, and ends with what its runner reports.
use Rattle.std.proofs.Common.{◌≡◌, ◌⊎◌, ℕ, zero, suc, ◌+◌, ◌<◌, Bool, true, false, cond, ◌==◌, nat_lt, List, [], ◌∷◌, length, take, replicate, slice_set, Option, Some, None, Ok, Err, IsOk, refl, sym, ap, subst, ◌∙◌, arith, inl, inr}
use Rattle.std.specs.List.{slice_get}
use Rattle.std.specs.Option.{option_map, option_map_or, is_some}
use Rattle.std.specs.Result.{is_ok}
use Rattle.std.proofs.lemmas.Bool.{and_parts, eqb-true, ltb-true, true≢false}
use Rattle.std.proofs.lemmas.Option.{get_or_from_slice_get, slice_get_within}
use Rattle.std.proofs.lemmas.List.Elements.{All-set, All-push}
use Rattle.bm_session.specs.declared.results.Results.{Results}
use Rattle.bm_session.specs.declared.results.Results.TheVariants.{Success, Warnings, Failure, Skipped, Exception, Retry, Cancelled}
use Rattle.bm_board.specs.declared.plan.Build.{Build}
use Rattle.bm_board.specs.declared.plan.StepPlan.{StepPlan}
use Rattle.bm_board.specs.declared.scheduled_build.Phase.{Phase}
use Rattle.bm_board.specs.declared.scheduled_build.Phase.TheVariants.{Waiting, Running, Over}
use Rattle.bm_board.specs.declared.refusal.BoardRefusal.{BoardRefusal}
use Rattle.bm_board.specs.declared.refusal.BoardRefusal.TheVariants.{NoBuild, Mem}
use Rattle.bm_board.specs.declared.steps.Next.TheVariants.{Ended}
use Rattle.bm_board.specs.Steps.{next_of, worse}
use Rattle.bm_board.specs.ScheduledBuild.{BuildState, Outcome, cancel, cancel_in, done, finish, finish_in, give_up, give_up_in, in_phase, is_sound, is_waiting, job_after, phase_of, release, release_in, started, waiting}
use Rattle.bm_board.specs.Board.{BoardState, board_after, has_place, on_build, start, with_build}
use Rattle.bm_board.proofs.Starting.{chosen}
use Rattle.bm_build_queue.specs.BuildQueue.{CanStart, Releases, Reports, after_release, after_step, on_board, phase_on, result_by, whole}
use Rattle.bm_build_queue.specs.Wholes.{AreWhole, IsWhole}

-- one step ran, with this outcome
after_one : (r : Results) → next_of (whole ∷ []) (r ∷ []) ≡ Ended (worse Success r)
after_one Success = refl
after_one Warnings = refl
after_one Failure = refl
after_one Skipped = refl
after_one Exception = refl
after_one Retry = refl
after_one Cancelled = refl

-- the build is over once its step is done
over_by : (cancelled : Bool) (r : Results) → phase_of (next_of (whole ∷ []) (cond cancelled Cancelled r ∷ [])) ≡ Over (result_by cancelled r) true
over_by true r = refl
over_by false r = ap phase_of (after_one r)

over_in : (outcomes : List Results) (step : ℕ) (cancelled : Bool) (r : Results) → is_sound (Running step cancelled) 1 (length outcomes) ≡ true
    → phase_of (next_of (whole ∷ []) (take (step + 1) (done outcomes step cancelled r))) ≡ Over (result_by cancelled r) true
over_in [] step cancelled r h = absurd (true≢false (sym (and_parts (nat_lt step 1) (0 == 1) h).1))
over_in (o ∷ []) zero cancelled r h = over_by cancelled r
over_in (o ∷ []) (suc step) cancelled r h = absurd (omega (arith, ltb-true (suc step) 1 (and_parts (nat_lt (suc step) 1) (1 == 1) h).0))
over_in (o ∷ p ∷ os) step cancelled r h = absurd (omega (arith, eqb-true (length (o ∷ p ∷ os)) 1 (and_parts (nat_lt step 1) (length (o ∷ p ∷ os) == 1) h).1))

-- a build whose step is done
abbrev stepped : BuildState → ℕ → Bool → Results → BuildState
stepped job step cancelled r =
    record {
      build = job.build;
      phase = phase_of (next_of job.build.steps (take (step + 1) (done job.outcomes step cancelled r)));
      outcomes = done job.outcomes step cancelled r;
    }

stepped_over : (job : BuildState) (step : ℕ) (cancelled : Bool) (r : Results) → IsWhole job → job.phase ≡ Running step cancelled
    → (stepped job step cancelled r).phase ≡ Over (result_by cancelled r) true
stepped_over job step cancelled r w h =
    ap (λ (ss : List StepPlan). phase_of (next_of ss (take (step + 1) (done job.outcomes step cancelled r)))) w.steps
    ∙ over_in job.outcomes step cancelled r (ap (λ p. is_sound p 1 (length job.outcomes)) (sym h) ∙ w.sound)

-- a call leaves a build one step
abbrev Keeps : {T : Type 0} → (BuildState → Outcome T) → Type 0
Keeps call = (job : BuildState) → IsWhole job → IsWhole (job_after job (call job))

on_finish : (p : Phase) (r : Results) (job : BuildState) → job.phase ≡ p → IsWhole job → IsWhole (job_after job (finish_in p r job))
on_finish Waiting r job h w = w
on_finish (Running step cancelled) r job h w =
    record { steps = w.steps; sound = ap (λ p. is_sound p 1 (length (done job.outcomes step cancelled r))) (stepped_over job step cancelled r w h) }
on_finish (Over result holds) r job h w = w

on_release : (p : Phase) (job : BuildState) → IsWhole job → IsWhole (job_after job (release_in p job))
on_release Waiting job w = w
on_release (Running step cancelled) job w = w
on_release (Over result true) job w = record { steps = w.steps; sound = refl }
on_release (Over result false) job w = w

on_cancel : (p : Phase) (job : BuildState) → job.phase ≡ p → IsWhole job → IsWhole (job_after job (cancel_in p job))
on_cancel Waiting job h w = record { steps = w.steps; sound = refl }
on_cancel (Running step cancelled) job h w = record { steps = w.steps; sound = ap (λ p. is_sound p 1 (length job.outcomes)) (sym h) ∙ w.sound }
on_cancel (Over result holds) job h w = w

on_give_up : (p : Phase) (job : BuildState) → IsWhole job → IsWhole (job_after job (give_up_in p job))
on_give_up Waiting job w = record { steps = w.steps; sound = refl }
on_give_up (Running step cancelled) job w = w
on_give_up (Over result holds) job w = w

start_whole : (job : BuildState) → IsWhole job → IsWhole (started job)
start_whole job w =
    record {
      steps = w.steps;
      sound = ap (λ (ss : List StepPlan). is_sound (phase_of (next_of ss [])) 1 (length (replicate (length ss) Skipped))) w.steps;
    }

on_chosen : (job : BuildState) (waits place free : Bool) → IsWhole job → IsWhole (job_after job (chosen job waits place free))
on_chosen job false place free w = w
on_chosen job true false free w = w
on_chosen job true true false w = w
on_chosen job true true true w = start_whole job w

found : (b : BoardState) (n : ℕ) (job : BuildState) → slice_get b.jobs n ≡ Some job → AreWhole b → IsWhole job
found b n job e all = subst IsWhole (get_or_from_slice_get b.jobs n job job e) (all n job (slice_get_within b.jobs n job e))

whole_out : {T : Type 0} (b : BoardState) (n : ℕ) (job : BuildState) (out : Outcome T) → IsWhole (job_after job out) → AreWhole b → AreWhole (board_after b n out)
whole_out b n job (Ok p) w all = All-set IsWhole b.jobs n p.0 w all
whole_out b n job (Err why) w all = all

-- the board after a call on one build
whole_at : {T : Type 0} (call : BuildState → Outcome T) → Keeps call → (b : BoardState) (n : ℕ) (o : Option BuildState) → slice_get b.jobs n ≡ o
    → AreWhole b → AreWhole (board_after b n (option_map_or call o (Err NoBuild)))
whole_at call keeps b n None e all = all
whole_at call keeps b n (Some job) e all = whole_out b n job (call job) (keeps job (found b n job e all)) all

whole_after : {T : Type 0} (call : BuildState → Outcome T) → Keeps call → (b new : BoardState) (n : ℕ) → new ≡ board_after b n (on_build call b n) → AreWhole b → AreWhole new
whole_after call keeps b new n e all = subst AreWhole (sym e) (whole_at call keeps b n (slice_get b.jobs n) refl all)

-- a build's step is done
pub whole_stepped : (b new : BoardState) (n : ℕ) (r : Results) → new ≡ board_after b n (on_build (finish r) b n) → AreWhole b → AreWhole new
whole_stepped b new n r e all = whole_after (finish r) (λ job w. on_finish job.phase r job refl w) b new n e all

-- a build gives back what it holds
pub whole_released : (b new : BoardState) (n : ℕ) → new ≡ board_after b n (on_build release b n) → AreWhole b → AreWhole new
whole_released b new n e all = whole_after release (λ job w. on_release job.phase job w) b new n e all

-- a build is cancelled
pub whole_cancelled : (b new : BoardState) (n : ℕ) → new ≡ board_after b n (on_build cancel b n) → AreWhole b → AreWhole new
whole_cancelled b new n e all = whole_after cancel (λ job w. on_cancel job.phase job refl w) b new n e all

-- a build is given up
pub whole_given_up : (b new : BoardState) (n : ℕ) → new ≡ board_after b n (on_build give_up b n) → AreWhole b → AreWhole new
whole_given_up b new n e all = whole_after give_up (λ job w. on_give_up job.phase job w) b new n e all

-- a build is started
pub whole_started : (b new : BoardState) (n : ℕ) → new ≡ board_after b n (on_build (start b) b n) → AreWhole b → AreWhole new
whole_started b new n e all =
    whole_after (start b) (λ job w. on_chosen job (is_waiting job.phase) (has_place b job.build.worker) _ w) b new n e all

-- a build is added
pub whole_added : (b new : BoardState) (build : Build) → new ≡ with_build b (on_board build) → AreWhole b → AreWhole new
whole_added b new build e all =
    subst AreWhole (sym e) (All-push IsWhole b.jobs (waiting (on_board build)) all (record { steps = refl; sound = refl }))

-- the build at a place after a call on it
get_set : {X : Type 0} (xs : List X) (n : ℕ) (y : X) → n < length xs → slice_get (slice_set xs n y) n ≡ Some y
get_set [] n y l = absurd (omega arith)
get_set (x ∷ xs) zero y l = refl
get_set (x ∷ xs) (suc n) y l = get_set xs n y (omega arith)

called : {T : Type 0} (call : BuildState → Outcome T) (b : BoardState) (n : ℕ) (job : BuildState) (p : BuildState × T) → slice_get b.jobs n ≡ Some job → call job ≡ Ok p
    → slice_get (board_after b n (on_build call b n)).jobs n ≡ Some p.0
called call b n job p e h =
    ap (λ o. slice_get (board_after b n (option_map_or call o (Err NoBuild))).jobs n) e
    ∙ ap (λ out. slice_get (board_after b n out).jobs n) h ∙ get_set b.jobs n p.0 (slice_get_within b.jobs n job e)

-- what is in an option
some_is : {X : Type 0} (x y : X) → Some x ≡ Some y → x ≡ y
some_is x y h = ap (λ o. option_map_or (λ z. z) o x) h

reported_at : (b : BoardState) (n : ℕ) (r : Results) (step : ℕ) (cancelled : Bool) (o : Option BuildState) → slice_get b.jobs n ≡ o → AreWhole b
    → option_map (λ job. job.phase) o ≡ Some (Running step cancelled) → phase_on (after_step b n r) n ≡ Some (Over (result_by cancelled r) true)
reported_at b n r step cancelled None e all h = absurd (true≢false (sym (ap is_some h)))
reported_at b n r step cancelled (Some job) e all h =
    let runs : job.phase ≡ Running step cancelled = some_is job.phase (Running step cancelled) h in
    let new = stepped job step cancelled r in
    let one = called (finish r) b n job (new, next_of job.build.steps (take (step + 1) (done job.outcomes step cancelled r))) e (ap (λ p. finish_in p r job) runs) in
    ap (λ q. option_map (λ (j : BuildState). j.phase) q) one ∙ ap Some (stepped_over job step cancelled r (found b n job e all) runs)

-- a build that ran has the result that its runner reports
pub reported : (b now new : BoardState) (n : ℕ) (r : Results) → b ≡ now → new ≡ board_after b n (on_build (finish r) b n)
    → AreWhole b → Reports now new n r
reported b now new n r v e all = λ step cancelled h.
    ap (λ z. phase_on z n) e
    ∙ reported_at b n r step cancelled (slice_get b.jobs n) refl all (ap (λ z. phase_on z n) v ∙ h)

released_by : (b : BoardState) (n : ℕ) (job : BuildState) (result : Results) (holds : Bool) → slice_get b.jobs n ≡ Some job → job.phase ≡ Over result holds
    → phase_on (after_release b n) n ≡ Some (Over result false)
released_by b n job result true e h =
    ap (λ q. option_map (λ (j : BuildState). j.phase) q)
    (called release b n job (in_phase job (Over result false), tt) e (ap (λ p. release_in p job) h))
released_by b n job result false e h =
    ap (λ out. phase_on (board_after b n out) n) (ap (λ o. option_map_or release o (Err NoBuild)) e ∙ ap (λ p. release_in p job) h)
    ∙ ap (λ q. option_map (λ (j : BuildState). j.phase) q) e ∙ ap Some h

released_at : (b : BoardState) (n : ℕ) (result : Results) (holds : Bool) (o : Option BuildState) → slice_get b.jobs n ≡ o
    → option_map (λ job. job.phase) o ≡ Some (Over result holds) → phase_on (after_release b n) n ≡ Some (Over result false)
released_at b n result holds None e h = absurd (true≢false (sym (ap is_some h)))
released_at b n result holds (Some job) e h = released_by b n job result holds e (some_is job.phase (Over result holds) h)

-- a build that is over holds nothing once it is released
pub released : (b now new : BoardState) (n : ℕ) → b ≡ now → new ≡ board_after b n (on_build release b n) → Releases now new n
released b now new n v e = λ result holds h.
    ap (λ z. phase_on z n) e ∙ released_at b n result holds (slice_get b.jobs n) refl (ap (λ z. phase_on z n) v ∙ h)

-- a start is never refused for memory
chosen_not_mem : (job : BuildState) (waits place free : Bool) → chosen job waits place free ≡ Err Mem → ⊥
chosen_not_mem job false place free h = cc
chosen_not_mem job true false free h = cc
chosen_not_mem job true true false h = cc
chosen_not_mem job true true true h = absurd (true≢false (ap is_ok h))

not_mem_at : (b : BoardState) (o : Option BuildState) → option_map_or (start b) o (Err NoBuild) ≡ Err Mem → ⊥
not_mem_at b None h = cc
not_mem_at b (Some job) h = chosen_not_mem job (is_waiting job.phase) (has_place b job.build.worker) _ h

-- a build for whose start memory is wanting can be started
pub can_start_by : (b : BoardState) (n : ℕ) (why : BoardRefusal) → why ≡ Mem
    → (on_build (start b) b n ≡ Err why) ⊎ (IsOk (on_build (start b) b n) × (why ≡ Mem)) → CanStart b
can_start_by b n why e (inl h) = absurd (not_mem_at b (slice_get b.jobs n) (h ∙ ap Err e))
can_start_by b n why e (inr h) = (n, h.0)

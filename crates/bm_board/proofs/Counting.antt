-- Lemmas on all that a board counts, as one of its builds changes.
use Rattle.std.proofs.Common.{◌≡◌, ℕ, ◌<◌, true, false, nat_lt, List, [], ◌∷◌, ◌++◌, length, get_or, sym, subst}
use Rattle.bm_board.specs.declared.plan.Build.{Build}
use Rattle.bm_board.specs.Locks.{are_good}
use Rattle.bm_board.specs.ScheduledBuild.{BuildState, is_waiting, waiting, IsSameHolder}
use Rattle.bm_board.specs.Board.{BoardState, most_builds}
use Rattle.bm_board.specs.Kept.{BoardCounts, AreWaiting, IsCounted, IsKept, IsOneMore, IsTaken}
use Rattle.bm_board.proofs.Places.{with_job}
use Rattle.bm_board.proofs.Keeping.{kept_same, kept_started, kept_released, kept_added, IsStartable, Starts, Stops}
use Rattle.bm_board.proofs.Waiting.{waits_stay, waits_fall, waits_grow}

-- one build fewer waits for the worker, and what is held stays
pub record Unwaits (t less : BoardCounts) (worker : ℕ) : Type 0 where
  pub held : less.held ≡ t.held
  pub fewer : IsOneMore less.waiting t.waiting worker

-- a build that holds what it held, and waits as before
pub counted_same : (b : BoardState) (t : BoardCounts) (id : ℕ) (job new : BuildState) → id < length b.jobs → job ≡ get_or b.jobs id job
    → IsSameHolder job new → is_waiting new.phase ≡ is_waiting job.phase → IsCounted b t → IsCounted (with_job b id new) t
counted_same b t id job new l e same waits kept =
    record {
      held = kept_same b t.held id job new l e same kept.held;
      waiting = waits_stay b t.waiting id job new l e same.build waits kept.waiting;
    }

-- a build that waited ends without a start
pub counted_ended : (b : BoardState) (t less : BoardCounts) (id : ℕ) (job new : BuildState) (build : Build) → id < length b.jobs → job ≡ get_or b.jobs id job
    → IsSameHolder job new → is_waiting job.phase ≡ true → is_waiting new.phase ≡ false → build ≡ job.build → Unwaits t less build.worker
    → IsCounted b t → IsCounted (with_job b id new) less
counted_ended b t less id job new build l e same before now hb un kept =
    record {
      held = subst (λ h. IsKept (with_job b id new) h) (sym un.held) (kept_same b t.held id job new l e same kept.held);
      waiting = waits_fall b t.waiting less.waiting id job new l e before now
          (subst (λ (x : Build). IsOneMore less.waiting t.waiting x.worker) hb un.fewer) kept.waiting;
    }

-- a build that waited starts
pub counted_started : (b : BoardState) (t less more : BoardCounts) (id : ℕ) (job new : BuildState) (build : Build) → id < length b.jobs → job ≡ get_or b.jobs id job
    → Starts job new → IsStartable b t.held job → is_waiting job.phase ≡ true → is_waiting new.phase ≡ false → build ≡ job.build
    → Unwaits t less build.worker → IsTaken less.held more.held build → more.waiting ≡ less.waiting
    → IsCounted b t → IsCounted (with_job b id new) more
counted_started b t less more id job new build l e s free before now hb un took still kept =
    record {
      held = kept_started b t.held more.held id job new l e s free
          (subst (λ h. IsTaken h more.held job.build) un.held (subst (λ x. IsTaken less.held more.held x) hb took)) kept.held;
      waiting = subst (λ counts. AreWaiting (with_job b id new) counts) (sym still)
          (waits_fall b t.waiting less.waiting id job new l e before now
          (subst (λ (x : Build). IsOneMore less.waiting t.waiting x.worker) hb un.fewer) kept.waiting);
    }

-- a build gives back what it holds
pub counted_released : (b : BoardState) (t less : BoardCounts) (id : ℕ) (job new : BuildState) (build : Build) → id < length b.jobs → job ≡ get_or b.jobs id job
    → Stops job new → is_waiting new.phase ≡ is_waiting job.phase → build ≡ job.build → IsTaken less.held t.held build → less.waiting ≡ t.waiting
    → IsCounted b t → IsCounted (with_job b id new) less
counted_released b t less id job new build l e s waits hb gave still kept =
    record {
      held = kept_released b t.held less.held id job new l e s (subst (λ x. IsTaken less.held t.held x) hb gave) kept.held;
      waiting = subst (λ counts. AreWaiting (with_job b id new) counts) (sym still)
          (waits_stay b t.waiting id job new l e s.build waits kept.waiting);
    }

-- a build more waits
pub counted_added : (b : BoardState) (t more : BoardCounts) (build : Build) (jobs : List BuildState) → jobs ≡ b.jobs ++ waiting build ∷ []
    → nat_lt build.worker (length b.workers) ≡ true → are_good (length b.maxima) build.locks ≡ true → length b.jobs < most_builds
    → more.held ≡ t.held → IsOneMore t.waiting more.waiting build.worker
    → IsCounted b t → IsCounted (record { workers = b.workers; maxima = b.maxima; jobs = jobs }) more
counted_added b t more build jobs e worker locks room still one kept =
    subst (λ (js : List BuildState). IsCounted (record { workers = b.workers; maxima = b.maxima; jobs = js }) more) (sym e)
    (record {
      held = subst (λ h. IsKept (record { workers = b.workers; maxima = b.maxima; jobs = b.jobs ++ waiting build ∷ [] }) h) (sym still)
          (kept_added b t.held build worker locks room kept.held);
      waiting = waits_grow b t.waiting more.waiting build one kept.waiting;
    })

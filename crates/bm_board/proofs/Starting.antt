-- Lemmas on the start of a build.
use Rattle.std.proofs.Common.{◌≡◌, ℕ, ◌+◌, ◌<◌, ◌^◌, Bool, true, false, cond, ◌&&◌, nat_lt, List, length, get_or, map, slice_index, All, IsTrue, Ok, Err, refl, sym, ap, subst, ◌∙◌, arith}
use Rattle.std.specs.List.{list_all}
use Rattle.std.specs.Option.{option_map_or}
use Rattle.std.proofs.lemmas.Bool.{and_parts, ltb-true, true≢false}
use Rattle.std.proofs.lemmas.List.{get_or-map}
use Rattle.std.proofs.lemmas.Option.{slice_get-get_or}
use Rattle.bm_board.specs.declared.plan.Mode.TheVariants.{Counting, Exclusive}
use Rattle.bm_board.specs.declared.plan.LockUse.{LockUse}
use Rattle.bm_board.specs.declared.plan.Build.{Build}
use Rattle.bm_board.specs.declared.steps.Next.{Next}
use Rattle.bm_board.specs.declared.steps.Next.TheVariants.{Step, Ended}
use Rattle.bm_board.specs.declared.scheduled_build.Phase.{Phase}
use Rattle.bm_board.specs.declared.scheduled_build.Phase.TheVariants.{Waiting, Running, Over}
use Rattle.bm_board.specs.declared.worker_slots.WorkerSlots.{WorkerSlots}
use Rattle.bm_board.specs.declared.scheduled_build.Started.{Started}
use Rattle.bm_board.specs.declared.refusal.BoardRefusal.TheVariants.{NotWaiting, NoWorker, LockHeld}
use Rattle.bm_board.specs.Locks.{may_have, are_good, are_distinct}
use Rattle.bm_board.specs.ScheduledBuild.{BuildState, Outcome, is_waiting, is_holding, phase_of, started, first_of, answer_of}
use Rattle.bm_board.specs.Board.{BoardState, occupied, holders, has_place, is_free, start, on_build, board_after}
use Rattle.bm_board.specs.Kept.{HeldCounts, are_free, is_known, HasRoom, IsKept}
use Rattle.bm_board.proofs.Uses.{all_alike, each_passes, same_mode}
use Rattle.bm_board.proofs.Places.{on_place, with_job}
use Rattle.bm_board.proofs.Keeping.{known_at, counting_fits, exclusive_fits, Starts, IsStartable}

-- what a start does where the build waits, the worker has a place and the locks may be had, or not
abbrev pub chosen : BuildState → Bool → Bool → Bool → Outcome Started
chosen job waits place free =
    cond waits (cond place (cond free (Ok (started job, record { worker = job.build.worker; next = first_of job })) (Err LockHeld)) (Err NoWorker)) (Err NotWaiting)

pub start_chosen : (b now : BoardState) (id : ℕ) (job : BuildState) (waits place free : Bool) → b ≡ now → id < length b.jobs → job ≡ get_or b.jobs id job → is_waiting job.phase ≡ waits → has_place b job.build.worker ≡ place → list_all (is_free b) job.build.locks ≡ free → on_build (start now) now id ≡ chosen job waits place free
start_chosen b now id job waits place free v l e hw hp hf =
    ap (λ z. on_build (start z) z id) (sym v) ∙ on_place (start b) b id job l e
    ∙ ap (λ w. chosen job w (has_place b job.build.worker) (list_all (is_free b) job.build.locks)) hw
    ∙ ap (λ p. chosen job waits p (list_all (is_free b) job.build.locks)) hp
    ∙ ap (λ f. chosen job waits place f) hf

-- the worker's place, by the slots that are counted
pub has_place_is : (b : BoardState) (t : HeldCounts) (w : ℕ) (had : WorkerSlots) → w < length b.workers → had ≡ get_or b.workers w had → IsKept b t → has_place b w ≡ (had.ready && nat_lt (slice_index t.taken w) had.slots)
has_place_is b t w had l e kept =
    let found = slice_get-get_or b.workers w had l in
    ap (λ o. option_map_or (λ (worker : WorkerSlots). worker.ready && nat_lt (occupied w b.jobs) worker.slots) o false) found
    ∙ ap (λ (worker : WorkerSlots). worker.ready && nat_lt (occupied w b.jobs) worker.slots) (sym e)
    ∙ ap (λ n. had.ready && nat_lt n had.slots) (sym (kept.counts.slots w l))

-- the locks that may be had, by the holders that are counted
pub are_free_is : (b : BoardState) (t : HeldCounts) (uses : List LockUse) → list_all (λ u. nat_lt u.lock (length b.maxima)) uses ≡ true → IsKept b t → list_all (is_free b) uses ≡ are_free t b.maxima uses
are_free_is b t uses there kept =
    all_alike (is_free b) (λ u. may_have u.mode (slice_index b.maxima u.lock) (slice_index t.counting u.lock) (slice_index t.exclusive u.lock)) uses
    (λ i d l.
    let u : LockUse = get_or uses i d in
    let low = ltb-true u.lock (length b.maxima) (each_passes (λ v. nat_lt v.lock (length b.maxima)) uses i d there l) in
    ap (λ n. may_have u.mode (slice_index b.maxima u.lock) n (holders Exclusive u.lock b.jobs)) (sym (kept.counts.shared u.lock low))
    ∙ ap (λ n. may_have u.mode (slice_index b.maxima u.lock) (slice_index t.counting u.lock) n) (sym (kept.counts.alone u.lock low)))

-- a start, by what its tests found
pub start_by : (b now : BoardState) (t : HeldCounts) (id : ℕ) (job : BuildState) (build : Build) (had : WorkerSlots) (taken : ℕ) (waits place free : Bool) → b ≡ now → id < length b.jobs → job ≡ get_or b.jobs id job → IsKept b t → build ≡ job.build → is_waiting job.phase ≡ waits → had ≡ get_or b.workers build.worker had → taken ≡ slice_index t.taken build.worker → (had.ready && nat_lt taken had.slots) ≡ place → are_free t b.maxima build.locks ≡ free → on_build (start now) now id ≡ chosen job waits place free
start_by b now t id job build had taken waits place free v l e kept hb hw at ht hp hf =
    let known = and_parts (nat_lt job.build.worker (length b.workers)) (are_good (length b.maxima) job.build.locks) (known_at b t id job l e kept) in
    let good = and_parts (list_all (λ u. nat_lt u.lock (length b.maxima)) job.build.locks) (are_distinct job.build.locks) known.1 in
    let here = subst (λ (x : Build). had ≡ get_or b.workers x.worker had) hb at in
    let placed : has_place b job.build.worker ≡ place =
    has_place_is b t job.build.worker had (ltb-true job.build.worker (length b.workers) known.0) here kept
    ∙ ap (λ n. had.ready && nat_lt n had.slots) (ap (λ (x : Build). slice_index t.taken x.worker) (sym hb) ∙ sym ht) ∙ hp in
    let freed : list_all (is_free b) job.build.locks ≡ free =
    are_free_is b t job.build.locks good.0 kept ∙ ap (λ (x : Build). are_free t b.maxima x.locks) (sym hb) ∙ hf in
    start_chosen b now id job waits place free v l e hw placed freed

-- the answer of a start
pub started_answer : (job other : BuildState) (build : Build) (next : Next) → job ≡ other → build ≡ job.build → next ≡ first_of other → Ok (record { worker = build.worker; next = next }) ≡ answer_of (chosen job true true true)
started_answer job other build next same hb hn =
    ap (λ (x : Build). Ok (record { worker = x.worker; next = next })) hb
    ∙ ap (λ n. Ok (record { worker = job.build.worker; next = n })) (hn ∙ ap first_of (sym same))

-- the board after a start
pub started_board : (b now : BoardState) (id : ℕ) (job other new : BuildState) → b ≡ now → job ≡ other → new ≡ started other → with_job b id new ≡ board_after now id (chosen job true true true)
started_board b now id job other new v same hn =
    ap (λ j. with_job b id j) (hn ∙ ap started (sym same)) ∙ ap (λ z. with_job z id (started job)) v

-- a build that waits holds nothing
pub waiting_holds_none : (phase : Phase) → is_waiting phase ≡ true → is_holding phase ≡ false
waiting_holds_none Waiting h = refl
waiting_holds_none (Running step cancelled) h = absurd (true≢false (sym h))
waiting_holds_none (Over result holds) h = absurd (true≢false (sym h))

-- a started build holds its slot and its locks
pub started_holds : (next : Next) → is_holding (phase_of next) ≡ true
started_holds (Step step) = refl
started_holds (Ended result) = refl

-- a started build waits no longer
pub started_waits_not : (next : Next) → is_waiting (phase_of next) ≡ false
started_waits_not (Step step) = refl
started_waits_not (Ended result) = refl

-- a build that starts
pub starts : (job new : BuildState) → is_waiting job.phase ≡ true → new ≡ started job → Starts job new
starts job new hw hn =
    record {
      build = ap (λ (j : BuildState). j.build) hn;
      before = waiting_holds_none job.phase hw;
      now = ap (λ (j : BuildState). is_holding j.phase) hn ∙ started_holds (first_of job);
    }

-- the tests of a start found that the build may start
pub startable : (b : BoardState) (t : HeldCounts) (id : ℕ) (job : BuildState) (build : Build) (had : WorkerSlots) (taken : ℕ) → id < length b.jobs → job ≡ get_or b.jobs id job → IsKept b t → build ≡ job.build → had ≡ get_or b.workers build.worker had → taken ≡ slice_index t.taken build.worker → taken < had.slots → are_free t b.maxima build.locks ≡ true → IsStartable b t job
startable b t id job build had taken l e kept hb at ht lt hf =
    let known = and_parts (nat_lt job.build.worker (length b.workers)) (are_good (length b.maxima) job.build.locks) (known_at b t id job l e kept) in
    let good = and_parts (list_all (λ u. nat_lt u.lock (length b.maxima)) job.build.locks) (are_distinct job.build.locks) known.1 in
    let slots : ◌≡◌ {A = ℕ} (slice_index (map (λ (worker : WorkerSlots). worker.slots) b.workers) job.build.worker) had.slots =
    get_or-map (λ (worker : WorkerSlots). worker.slots) b.workers job.build.worker had 0 (ltb-true job.build.worker (length b.workers) known.0)
    ∙ ap (λ (worker : WorkerSlots). worker.slots) (sym (subst (λ (x : Build). had ≡ get_or b.workers x.worker had) hb at)) in
    let counted : ◌≡◌ {A = ℕ} (slice_index t.taken build.worker) (slice_index t.taken job.build.worker) = ap (λ (x : Build). slice_index t.taken x.worker) hb in
    record {
      place = omega (arith, slots, counted, ht, lt);
      locks = ap (λ (x : Build). are_free t b.maxima x.locks) (sym hb) ∙ hf;
      distinct = good.1;
    }

-- the counts of a build that may start stay in their types
pub has_room : (b : BoardState) (t : HeldCounts) (job : BuildState) (build : Build) → build ≡ job.build → IsKept b t → IsTrue (is_known (length b.workers) (length b.maxima) job) → slice_index t.taken build.worker + 1 < 2 ^ 8 → All (λ m. m < 2 ^ 32) b.maxima → are_free t b.maxima build.locks ≡ true → HasRoom t build
has_room b t job build hb kept known room fits hf =
    let parts = and_parts (nat_lt job.build.worker (length b.workers)) (are_good (length b.maxima) job.build.locks) known in
    let good = and_parts (list_all (λ u. nat_lt u.lock (length b.maxima)) job.build.locks) (are_distinct job.build.locks) parts.1 in
    let there : list_all (λ (u : LockUse). nat_lt u.lock (length b.maxima)) build.locks ≡ true = ap (λ (x : Build). list_all (λ (u : LockUse). nat_lt u.lock (length b.maxima)) x.locks) hb ∙ good.0 in
    let test : LockUse → Bool = λ u. may_have u.mode (slice_index b.maxima u.lock) (slice_index t.counting u.lock) (slice_index t.exclusive u.lock) in
    record {
      worker = room;
      counting = λ i d l h.
          let u : LockUse = get_or build.locks i d in
          let may = each_passes test build.locks i d hf l in
          let fit = counting_fits (slice_index b.maxima u.lock) (slice_index t.counting u.lock) (slice_index t.exclusive u.lock)
          (ap (λ m. may_have m (slice_index b.maxima u.lock) (slice_index t.counting u.lock) (slice_index t.exclusive u.lock)) (sym (same_mode u.mode Counting h)) ∙ may) in
          omega (arith, fit.1, fits u.lock 0 (ltb-true u.lock (length b.maxima) (each_passes (λ (v : LockUse). nat_lt v.lock (length b.maxima)) build.locks i d there l)));
      exclusive = λ i d l h.
          let u : LockUse = get_or build.locks i d in
          let may = each_passes test build.locks i d hf l in
          let fit = exclusive_fits (slice_index b.maxima u.lock) (slice_index t.counting u.lock) (slice_index t.exclusive u.lock)
          (ap (λ m. may_have m (slice_index b.maxima u.lock) (slice_index t.counting u.lock) (slice_index t.exclusive u.lock)) (sym (same_mode u.mode Exclusive h)) ∙ may) in
          omega (arith, fit.0);
    }

-- Lemmas on what a board keeps, as one of its builds changes.
use Rattle.std.proofs.Common.{◌≡◌, ℕ, ◌+◌, ◌<◌, ◌≤◌, ◌==◌, Bool, true, false, cond, ◌&&◌, nat_lt, List, [], ◌∷◌, ◌++◌, length, get_or, set, slice_index, map, count_by, replicate, All, IsTrue, refl, sym, ap, subst, ◌∙◌, arith, inl, inr}
use Rattle.std.specs.List.{list_any}
use Rattle.std.proofs.lemmas.Bool.{and_parts, and_from, cases_Bool, eqb-true, ltb-true, cond-true, cond-false, true≢false}
use Rattle.std.proofs.lemmas.List.{length-set, length-append, length-replicate, get_or-replicate}
use Rattle.std.proofs.Math.Seq.{map-set_same}
use Rattle.std.proofs.lemmas.List.Sums.{sum_by-set, sum_by-append}
use Rattle.std.proofs.lemmas.List.Elements.{All-set, All-push}
use Rattle.bm_board.specs.declared.plan.Mode.{Mode}
use Rattle.bm_board.specs.declared.plan.Mode.TheVariants.{Counting, Exclusive}
use Rattle.bm_board.specs.declared.plan.Build.{Build}
use Rattle.bm_board.specs.declared.worker_slots.WorkerSlots.{WorkerSlots}
use Rattle.bm_board.specs.Locks.{is_use, are_distinct, are_good, may_have}
use Rattle.bm_board.specs.ScheduledBuild.{BuildState, is_holding, waiting, IsSameHolder}
use Rattle.bm_board.specs.Board.{BoardState, occupies, holds_lock, occupied, holders, most_builds}
use Rattle.bm_board.specs.Kept.{HeldCounts, place_share, lock_share, are_free, IsTaken, is_known, IsKept}
use Rattle.bm_board.proofs.Uses.{used_passes, one_mode}
use Rattle.bm_board.proofs.Places.{with_job}

-- a change of one element changes a count by that element alone
pub count_by-set : {X : Type 0} (p : X → Bool) (xs : List X) (i : ℕ) (y d : X) → i < length xs → count_by p (set xs i y) + cond (p (get_or xs i d)) 1 0 ≡ count_by p xs + cond (p y) 1 0
count_by-set p xs i y d l = sum_by-set (λ x. cond (p x) 1 0) xs i y d l

-- a count stays where the element that changes passes as before
pub count_stays : {X : Type 0} (p : X → Bool) (xs : List X) (i : ℕ) (x y : X) → i < length xs → x ≡ get_or xs i x → p y ≡ p x → count_by p (set xs i y) ≡ count_by p xs
count_stays p xs i x y l e h =
    let same : ◌≡◌ {A = ℕ} (cond (p y) 1 0) (cond (p (get_or xs i x)) 1 0) = ap (λ b. cond b 1 0) h ∙ ap (λ z. cond (p z) 1 0) e in
    omega (arith, count_by-set p xs i y x l, same)

-- a count grows by an element that passes now and didn't before
pub count_grows : {X : Type 0} (p : X → Bool) (xs : List X) (i : ℕ) (x y : X) (b : Bool) → i < length xs → x ≡ get_or xs i x → p x ≡ false → p y ≡ b → count_by p (set xs i y) ≡ count_by p xs + cond b 1 0
count_grows p xs i x y b l e before now =
    let none : ◌≡◌ {A = ℕ} (cond (p (get_or xs i x)) 1 0) 0 = ap (λ z. cond (p z) 1 0) (sym e) ∙ ap (λ b. cond b 1 0) before in
    let some : ◌≡◌ {A = ℕ} (cond (p y) 1 0) (cond b 1 0) = ap (λ b. cond b 1 0) now in
    omega (arith, count_by-set p xs i y x l, none, some)

-- a count falls by an element that passed and doesn't now
pub count_falls : {X : Type 0} (p : X → Bool) (xs : List X) (i : ℕ) (x y : X) (b : Bool) → i < length xs → x ≡ get_or xs i x → p x ≡ b → p y ≡ false → count_by p xs ≡ count_by p (set xs i y) + cond b 1 0
count_falls p xs i x y b l e before now =
    let some : ◌≡◌ {A = ℕ} (cond (p (get_or xs i x)) 1 0) (cond b 1 0) = ap (λ z. cond (p z) 1 0) (sym e) ∙ ap (λ b. cond b 1 0) before in
    let none : ◌≡◌ {A = ℕ} (cond (p y) 1 0) 0 = ap (λ b. cond b 1 0) now in
    omega (arith, count_by-set p xs i y x l, none, some)

-- what is known of the build at a place
pub known_at : (b : BoardState) (t : HeldCounts) (id : ℕ) (job : BuildState) → id < length b.jobs → job ≡ get_or b.jobs id job → IsKept b t → IsTrue (is_known (length b.workers) (length b.maxima) job)
known_at b t id job l e kept =
    subst (λ (j : BuildState). IsTrue (is_known (length b.workers) (length b.maxima) j)) (sym e) (kept.known id job l)

-- a board whose builds hold what they held is kept
pub kept_alike : (b : BoardState) (t : HeldCounts) (jobs : List BuildState) → length jobs ≤ most_builds → All (λ job. IsTrue (is_known (length b.workers) (length b.maxima) job)) jobs → ((w : ℕ) → occupied w jobs ≡ occupied w b.jobs) → ((mode : Mode) (lock : ℕ) → holders mode lock jobs ≡ holders mode lock b.jobs) → IsKept b t → IsKept (record { workers = b.workers; maxima = b.maxima; jobs = jobs }) t
kept_alike b t jobs few known places locks kept =
    record {
      few = few;
      known = known;
      counts = record {
        workers = kept.counts.workers;
        locks = kept.counts.locks;
        locks_too = kept.counts.locks_too;
        slots = λ w l. kept.counts.slots w l ∙ sym (places w);
        shared = λ lock l. kept.counts.shared lock l ∙ sym (locks Counting lock);
        alone = λ lock l. kept.counts.alone lock l ∙ sym (locks Exclusive lock);
      };
      within = record {
        slots = λ w l. omega (arith, kept.within.slots w l, places w);
        counting = λ lock l. omega (arith, kept.within.counting lock l, locks Counting lock);
        exclusive = λ lock l. omega (arith, kept.within.exclusive lock l, locks Exclusive lock);
        alone = λ lock l some. locks Counting lock ∙ kept.within.alone lock l (omega (arith, locks Exclusive lock, some));
      };
    }

-- a build that holds what it held leaves the board kept
pub kept_same : (b : BoardState) (t : HeldCounts) (id : ℕ) (job new : BuildState) → id < length b.jobs → job ≡ get_or b.jobs id job → IsSameHolder job new → IsKept b t → IsKept (with_job b id new) t
kept_same b t id job new l e same kept =
    let known = known_at b t id job l e kept in
    kept_alike b t (set b.jobs id new)
    (omega (arith, kept.few, length-set b.jobs id new))
    (All-set (λ j. IsTrue (is_known (length b.workers) (length b.maxima) j)) b.jobs id new
    (subst (λ build. IsTrue (nat_lt build.worker (length b.workers) && are_good (length b.maxima) build.locks)) (sym same.build) known) kept.known)
    (λ w. count_stays (occupies w) b.jobs id job new l e
    (ap (λ h. h && (new.build.worker == w)) same.holding ∙ ap (λ build. is_holding job.phase && (build.worker == w)) same.build))
    (λ mode lock. count_stays (holds_lock mode lock) b.jobs id job new l e
    (ap (λ h. h && list_any (is_use mode lock) new.build.locks) same.holding ∙ ap (λ build. is_holding job.phase && list_any (is_use mode lock) build.locks) same.build))
    kept

-- the build's worker has a free slot, and each of its locks may be had
pub record IsStartable (b : BoardState) (t : HeldCounts) (job : BuildState) : Type 0 where
  pub place : slice_index t.taken job.build.worker < slice_index (map (λ worker. worker.slots) b.workers) job.build.worker
  pub locks : are_free t b.maxima job.build.locks ≡ true
  pub distinct : are_distinct job.build.locks ≡ true

-- a build that starts keeps what it is, and holds from then on
pub record Starts (job new : BuildState) : Type 0 where
  pub build : new.build ≡ job.build
  pub before : is_holding job.phase ≡ false
  pub now : is_holding new.phase ≡ true

places_grow : (b : BoardState) (id : ℕ) (job new : BuildState) → id < length b.jobs → job ≡ get_or b.jobs id job → Starts job new → (w : ℕ) → occupied w (set b.jobs id new) ≡ occupied w b.jobs + place_share w job.build
places_grow b id job new l e s w =
    count_grows (occupies w) b.jobs id job new (job.build.worker == w) l e
    (ap (λ h. h && (job.build.worker == w)) s.before)
    (ap (λ h. h && (new.build.worker == w)) s.now ∙ ap (λ build. build.worker == w) s.build)

locks_grow : (b : BoardState) (id : ℕ) (job new : BuildState) → id < length b.jobs → job ≡ get_or b.jobs id job → Starts job new → (mode : Mode) (lock : ℕ) → holders mode lock (set b.jobs id new) ≡ holders mode lock b.jobs + lock_share mode lock job.build
locks_grow b id job new l e s mode lock =
    count_grows (holds_lock mode lock) b.jobs id job new (list_any (is_use mode lock) job.build.locks) l e
    (ap (λ h. h && list_any (is_use mode lock) job.build.locks) s.before)
    (ap (λ h. h && list_any (is_use mode lock) new.build.locks) s.now ∙ ap (λ build. list_any (is_use mode lock) build.locks) s.build)

-- a lock that may be had by counting is held by fewer than its maximum, and by none alone
pub counting_fits : (maximum counting exclusive : ℕ) → may_have Counting maximum counting exclusive ≡ true → (exclusive ≡ 0) × (counting < maximum)
counting_fits maximum counting exclusive h =
    let parts = and_parts (exclusive == 0) (nat_lt counting maximum) h in
    (eqb-true exclusive 0 parts.0, ltb-true counting maximum parts.1)

-- a lock that may be had alone is held by none
pub exclusive_fits : (maximum counting exclusive : ℕ) → may_have Exclusive maximum counting exclusive ≡ true → (exclusive ≡ 0) × (counting ≡ 0)
exclusive_fits maximum counting exclusive h =
    let parts = and_parts (exclusive == 0) (counting == 0) h in
    (eqb-true exclusive 0 parts.0, eqb-true counting 0 parts.1)

-- what the use of a lock says of its holders
lock_fits : (b : BoardState) (t : HeldCounts) (job : BuildState) → IsStartable b t job → (mode : Mode) (lock : ℕ) → list_any (is_use mode lock) job.build.locks ≡ true → may_have mode (slice_index b.maxima lock) (slice_index t.counting lock) (slice_index t.exclusive lock) ≡ true
lock_fits b t job s mode lock e =
    used_passes (λ m k. may_have m (slice_index b.maxima k) (slice_index t.counting k) (slice_index t.exclusive k)) mode lock job.build.locks s.locks e

-- the four numbers of a lock before a start keep its limits after it
pub record IsLockFine (maximum counting exclusive : ℕ) : Type 0 where
  pub few : counting ≤ maximum
  pub one : exclusive ≤ 1
  pub alone : 0 < exclusive → counting ≡ 0

lock_stays_fine : (maximum counting exclusive : ℕ) (c e : Bool) → (c ≡ true → may_have Counting maximum counting exclusive ≡ true) → (e ≡ true → may_have Exclusive maximum counting exclusive ≡ true) → (e ≡ true → c ≡ false) → IsLockFine maximum counting exclusive → IsLockFine maximum (counting + cond c 1 0) (exclusive + cond e 1 0)
lock_stays_fine maximum counting exclusive true true hc he one fine = absurd (true≢false (one refl))
lock_stays_fine maximum counting exclusive true false hc he one fine =
    let fits = counting_fits maximum counting exclusive (hc refl) in
    record { few = omega (arith, fits.1); one = omega (arith, fits.0); alone = λ some. absurd (omega (arith, fits.0, some)) }
lock_stays_fine maximum counting exclusive false true hc he one fine =
    let fits = exclusive_fits maximum counting exclusive (he refl) in
    record { few = omega (arith, fits.1, fine.few); one = omega (arith, fits.0); alone = λ some. omega (arith, fits.1) }
lock_stays_fine maximum counting exclusive false false hc he one fine =
    record { few = omega (arith, fine.few); one = omega (arith, fine.one); alone = λ some. omega (arith, fine.alone (omega (arith, some))) }

-- the counts kept of a lock are its holders
fits_holders : (b : BoardState) (t : HeldCounts) (mode : Mode) (lock : ℕ) → lock < length b.maxima → IsKept b t → may_have mode (slice_index b.maxima lock) (slice_index t.counting lock) (slice_index t.exclusive lock) ≡ true → may_have mode (slice_index b.maxima lock) (holders Counting lock b.jobs) (holders Exclusive lock b.jobs) ≡ true
fits_holders b t mode lock low kept h =
    ap (λ n. may_have mode (slice_index b.maxima lock) n (holders Exclusive lock b.jobs)) (sym (kept.counts.shared lock low))
    ∙ ap (λ n. may_have mode (slice_index b.maxima lock) (slice_index t.counting lock) n) (sym (kept.counts.alone lock low)) ∙ h

-- a worker with a free slot has enough for one build more
slot_fits : (b : BoardState) (t : HeldCounts) (job : BuildState) (w after : ℕ) → w < length b.workers → after ≡ occupied w b.jobs + place_share w job.build → IsStartable b t job → IsKept b t → after ≤ slice_index (map (λ worker. worker.slots) b.workers) w
slot_fits b t job w after low e free kept =
    elim (cases_Bool (job.build.worker == w)) [
      | inl same ↦
          let one : ◌≡◌ {A = ℕ} (place_share w job.build) 1 = cond-true _ 1 0 same in
          let here = subst (λ k. slice_index t.taken k < slice_index (map (λ worker. worker.slots) b.workers) k) (eqb-true job.build.worker w same) free.place in
          omega (arith, one, here, e, kept.counts.slots w low)
      | inr other ↦
          let none : ◌≡◌ {A = ℕ} (place_share w job.build) 0 = cond-false _ 1 0 other in
          omega (arith, none, e, kept.within.slots w low)
    ]

-- the board of a started build is kept
pub kept_started : (b : BoardState) (t t' : HeldCounts) (id : ℕ) (job new : BuildState) → id < length b.jobs → job ≡ get_or b.jobs id job → Starts job new → IsStartable b t job → IsTaken t t' job.build → IsKept b t → IsKept (with_job b id new) t'
kept_started b t t' id job new l e s free more kept =
    let known = known_at b t id job l e kept in
    let places = places_grow b id job new l e s in
    let locks = locks_grow b id job new l e s in
    let fine : (lock : ℕ) → lock < length b.maxima → IsLockFine (slice_index b.maxima lock) (holders Counting lock b.jobs + lock_share Counting lock job.build) (holders Exclusive lock b.jobs + lock_share Exclusive lock job.build) =
    λ lock low. lock_stays_fine (slice_index b.maxima lock) (holders Counting lock b.jobs) (holders Exclusive lock b.jobs)
    (list_any (is_use Counting lock) job.build.locks) (list_any (is_use Exclusive lock) job.build.locks)
    (λ used. fits_holders b t Counting lock low kept (lock_fits b t job free Counting lock used))
    (λ used. fits_holders b t Exclusive lock low kept (lock_fits b t job free Exclusive lock used))
    (λ used. one_mode lock job.build.locks free.distinct used)
    (record { few = kept.within.counting lock low; one = kept.within.exclusive lock low; alone = kept.within.alone lock low }) in
    record {
      few = omega (arith, kept.few, length-set b.jobs id new);
      known = All-set (λ j. IsTrue (is_known (length b.workers) (length b.maxima) j)) b.jobs id new
          (subst (λ build. IsTrue (nat_lt build.worker (length b.workers) && are_good (length b.maxima) build.locks)) (sym s.build) known) kept.known;
      counts = record {
        workers = more.workers ∙ kept.counts.workers;
        locks = more.locks ∙ kept.counts.locks;
        locks_too = more.locks_too ∙ kept.counts.locks_too;
        slots = λ w low. omega (arith, more.slots w (omega (arith, kept.counts.workers)), kept.counts.slots w low, places w);
        shared = λ lock low. omega (arith, more.shared lock (omega (arith, kept.counts.locks)), kept.counts.shared lock low, locks Counting lock);
        alone = λ lock low. omega (arith, more.alone lock (omega (arith, kept.counts.locks_too)), kept.counts.alone lock low, locks Exclusive lock);
      };
      within = record {
        slots = λ w low. slot_fits b t job w _ low (places w) free kept;
        counting = λ lock low. omega (arith, (fine lock low).few, locks Counting lock);
        exclusive = λ lock low. omega (arith, (fine lock low).one, locks Exclusive lock);
        alone = λ lock low some. locks Counting lock ∙ (fine lock low).alone (omega (arith, locks Exclusive lock, some));
      };
    }

-- a build that is released keeps what it is, and held until then
pub record Stops (job new : BuildState) : Type 0 where
  pub build : new.build ≡ job.build
  pub before : is_holding job.phase ≡ true
  pub now : is_holding new.phase ≡ false

-- the worker's builds are one fewer after a release
pub places_fall : (b : BoardState) (id : ℕ) (job new : BuildState) → id < length b.jobs → job ≡ get_or b.jobs id job → Stops job new → (w : ℕ) → occupied w b.jobs ≡ occupied w (set b.jobs id new) + place_share w job.build
places_fall b id job new l e s w =
    count_falls (occupies w) b.jobs id job new (job.build.worker == w) l e
    (ap (λ h. h && (job.build.worker == w)) s.before)
    (ap (λ h. h && (new.build.worker == w)) s.now)

-- the holders of each of its locks are one fewer
pub locks_fall : (b : BoardState) (id : ℕ) (job new : BuildState) → id < length b.jobs → job ≡ get_or b.jobs id job → Stops job new → (mode : Mode) (lock : ℕ) → holders mode lock b.jobs ≡ holders mode lock (set b.jobs id new) + lock_share mode lock job.build
locks_fall b id job new l e s mode lock =
    count_falls (holds_lock mode lock) b.jobs id job new (list_any (is_use mode lock) job.build.locks) l e
    (ap (λ h. h && list_any (is_use mode lock) job.build.locks) s.before)
    (ap (λ h. h && list_any (is_use mode lock) new.build.locks) s.now)

-- the board of a released build is kept
pub kept_released : (b : BoardState) (t t' : HeldCounts) (id : ℕ) (job new : BuildState) → id < length b.jobs → job ≡ get_or b.jobs id job → Stops job new → IsTaken t' t job.build → IsKept b t → IsKept (with_job b id new) t'
kept_released b t t' id job new l e s more kept =
    let known = known_at b t id job l e kept in
    let places = places_fall b id job new l e s in
    let locks = locks_fall b id job new l e s in
    record {
      few = omega (arith, kept.few, length-set b.jobs id new);
      known = All-set (λ j. IsTrue (is_known (length b.workers) (length b.maxima) j)) b.jobs id new
          (subst (λ build. IsTrue (nat_lt build.worker (length b.workers) && are_good (length b.maxima) build.locks)) (sym s.build) known) kept.known;
      counts = record {
        workers = sym more.workers ∙ kept.counts.workers;
        locks = sym more.locks ∙ kept.counts.locks;
        locks_too = sym more.locks_too ∙ kept.counts.locks_too;
        slots = λ w low. omega (arith, more.slots w (omega (arith, more.workers, kept.counts.workers)), kept.counts.slots w low, places w);
        shared = λ lock low. omega (arith, more.shared lock (omega (arith, more.locks, kept.counts.locks)), kept.counts.shared lock low, locks Counting lock);
        alone = λ lock low. omega (arith, more.alone lock (omega (arith, more.locks_too, kept.counts.locks_too)), kept.counts.alone lock low, locks Exclusive lock);
      };
      within = record {
        slots = λ w low. omega (arith, kept.within.slots w low, places w);
        counting = λ lock low. omega (arith, kept.within.counting lock low, locks Counting lock);
        exclusive = λ lock low. omega (arith, kept.within.exclusive lock low, locks Exclusive lock);
        alone = λ lock low some. omega (arith, kept.within.alone lock low (omega (arith, locks Exclusive lock, some)), locks Counting lock);
      };
    }

-- a build more that waits leaves the counts as they are
waits_uncounted : {X : Type 0} (p : X → Bool) (xs : List X) (y : X) → p y ≡ false → count_by p (xs ++ y ∷ []) ≡ count_by p xs
waits_uncounted p xs y h =
    let none : ◌≡◌ {A = ℕ} (cond (p y) 1 0) 0 = ap (λ b. cond b 1 0) h in
    omega (arith, sum_by-append (λ x. cond (p x) 1 0) xs (y ∷ []), none)

-- the board with a build more that waits is kept
pub kept_added : (b : BoardState) (t : HeldCounts) (build : Build) → nat_lt build.worker (length b.workers) ≡ true → are_good (length b.maxima) build.locks ≡ true → length b.jobs < most_builds → IsKept b t → IsKept (record { workers = b.workers; maxima = b.maxima; jobs = b.jobs ++ waiting build ∷ [] }) t
kept_added b t build worker locks room kept =
    kept_alike b t (b.jobs ++ waiting build ∷ [])
    (omega (arith, room, length-append b.jobs (waiting build ∷ [])))
    (All-push (λ j. IsTrue (is_known (length b.workers) (length b.maxima) j)) b.jobs (waiting build) kept.known (and_from _ _ worker locks))
    (λ w. waits_uncounted (occupies w) b.jobs (waiting build) refl)
    (λ mode lock. waits_uncounted (holds_lock mode lock) b.jobs (waiting build) refl)
    kept

-- the board with a worker's readiness changed is kept
pub kept_ready : (b : BoardState) (t : HeldCounts) (w : ℕ) (old : WorkerSlots) (ready : Bool) → old ≡ get_or b.workers w old → IsKept b t → IsKept (record { workers = set b.workers w (record { slots = old.slots; ready = ready }); maxima = b.maxima; jobs = b.jobs }) t
kept_ready b t w old ready e kept =
    let new : WorkerSlots = record { slots = old.slots; ready = ready } in
    let len = length-set b.workers w new in
    let slots : map (λ (worker : WorkerSlots). worker.slots) (set b.workers w new) ≡ map (λ (worker : WorkerSlots). worker.slots) b.workers =
    map-set_same (λ (worker : WorkerSlots). worker.slots) b.workers w new old (ap (λ (worker : WorkerSlots). worker.slots) e) in
    record {
      few = kept.few;
      known = subst (λ (n : ℕ). All (λ job. IsTrue (is_known n (length b.maxima) job)) b.jobs) (sym len) kept.known;
      counts = record {
        workers = kept.counts.workers ∙ sym len;
        locks = kept.counts.locks;
        locks_too = kept.counts.locks_too;
        slots = λ k low. kept.counts.slots k (omega (arith, len, low));
        shared = kept.counts.shared;
        alone = kept.counts.alone;
      };
      within = record {
        slots = λ k low. subst (λ (ns : List ℕ). occupied k b.jobs ≤ slice_index ns k) (sym slots) (kept.within.slots k (omega (arith, len, low)));
        counting = kept.within.counting;
        exclusive = kept.within.exclusive;
        alone = kept.within.alone;
      };
    }

-- a new board is kept
pub kept_opening : (workers : List WorkerSlots) (maxima : List ℕ) (n m : ℕ) → n ≡ length workers → m ≡ length maxima → IsKept (record { workers = workers; maxima = maxima; jobs = [] }) (record { taken = replicate n 0; counting = replicate m 0; exclusive = replicate m 0 })
kept_opening workers maxima n m en em =
    record {
      few = omega arith;
      known = λ k d l. absurd (omega (arith, l));
      counts = record {
        workers = length-replicate n 0 ∙ en;
        locks = length-replicate m 0 ∙ em;
        locks_too = length-replicate m 0 ∙ em;
        slots = λ w l. get_or-replicate n w 0 0 (omega (arith, en, l));
        shared = λ lock l. get_or-replicate m lock 0 0 (omega (arith, em, l));
        alone = λ lock l. get_or-replicate m lock 0 0 (omega (arith, em, l));
      };
      within = record {
        slots = λ w l. omega arith;
        counting = λ lock l. omega arith;
        exclusive = λ lock l. omega arith;
        alone = λ lock l some. refl;
      };
    }

-- Lemmas on the builds that wait for each worker, as one build of a board changes.
use Rattle.std.proofs.Common.{◌≡◌, ℕ, zero, suc, ◌+◌, ◌<◌, ◌≤◌, ◌^◌, ◌==◌, Bool, true, false, cond, ◌&&◌, ◌||◌, nat_lt, List, [], ◌∷◌, ◌++◌, length, get_or, set, slice_index, count_by, replicate, All, refl, sym, ap, ◌∙◌, arith}
use Rattle.std.specs.List.{list_any}
use Rattle.std.proofs.lemmas.Bool.{and_parts, or_from, ltb-true, lt-ltb, eq-eqb, false_from_ne_true, eqb-true}
use Rattle.std.proofs.lemmas.List.{length-set, length-replicate}
use Rattle.std.proofs.lemmas.List.Sums.{count_by-le-length, sum_by-cons, sum_by-append}
use Rattle.bm_board.specs.declared.plan.Build.{Build}
use Rattle.bm_board.specs.declared.worker_slots.WorkerSlots.{WorkerSlots}
use Rattle.bm_board.specs.Locks.{are_good}
use Rattle.bm_board.specs.ScheduledBuild.{BuildState, is_waiting, is_holding, waiting, waits_for}
use Rattle.bm_board.specs.Board.{BoardState, most_builds, occupies, has_build}
use Rattle.bm_board.specs.Kept.{AreWaiting, HeldCounts, IsOneMore, IsKept}
use Rattle.bm_board.proofs.Places.{with_job}
use Rattle.bm_board.proofs.Keeping.{count_stays, count_falls, known_at}

-- a change after which a build waits as before leaves the counts
pub waits_stay : (b : BoardState) (counts : List ℕ) (id : ℕ) (job new : BuildState) → id < length b.jobs → job ≡ get_or b.jobs id job → new.build ≡ job.build → is_waiting new.phase ≡ is_waiting job.phase
    → AreWaiting b counts → AreWaiting (with_job b id new) counts
waits_stay b counts id job new l e hb same are =
    record {
      workers = are.workers;
      waits = λ w. are.waits w ∙ sym (count_stays (waits_for w) b.jobs id job new l e
          (ap (λ x. x && new.build.worker == w) same ∙ ap (λ (build : Build). is_waiting job.phase && build.worker == w) hb));
    }

-- a build that waited waits no longer
pub waits_fall : (b : BoardState) (counts less : List ℕ) (id : ℕ) (job new : BuildState) → id < length b.jobs → job ≡ get_or b.jobs id job → is_waiting job.phase ≡ true → is_waiting new.phase ≡ false
    → IsOneMore less counts job.build.worker → AreWaiting b counts → AreWaiting (with_job b id new) less
waits_fall b counts less id job new l e before now one are =
    record {
      workers = sym one.each ∙ are.workers;
      waits = λ w.
          let fall = count_falls (waits_for w) b.jobs id job new (job.build.worker == w) l e
          (ap (λ x. x && job.build.worker == w) before) (ap (λ x. x && new.build.worker == w) now) in
          omega (arith, are.waits w, one.counts w, fall);
    }

-- a build more waits
pub waits_grow : (b : BoardState) (counts more : List ℕ) (build : Build) → IsOneMore counts more build.worker → AreWaiting b counts
    → AreWaiting (record { workers = b.workers; maxima = b.maxima; jobs = b.jobs ++ waiting build ∷ [] }) more
waits_grow b counts more build one are =
    record {
      workers = one.each ∙ are.workers;
      waits = λ w. omega (arith, are.waits w, one.counts w, sum_by-append (λ job. cond (waits_for w job) 1 0) b.jobs (waiting build ∷ []));
    }

-- so few wait that one more can be counted
pub waits_few : (b : BoardState) (counts : List ℕ) (w : ℕ) → length b.jobs ≤ most_builds → AreWaiting b counts → slice_index counts w + 1 < 2 ^ 32
waits_few b counts w few are = omega (arith, are.waits w, count_by-le-length (waits_for w) b.jobs, few)

-- the worker of a build is among those that are counted
pub waits_there : (b : BoardState) (t : HeldCounts) (counts : List ℕ) (id : ℕ) (job : BuildState) → id < length b.jobs → job ≡ get_or b.jobs id job → IsKept b t → AreWaiting b counts → job.build.worker < length counts
waits_there b t counts id job l e kept are =
    let known = and_parts (nat_lt job.build.worker (length b.workers)) (are_good (length b.maxima) job.build.locks) (known_at b t id job l e kept) in
    omega (arith, ltb-true job.build.worker (length b.workers) known.0, are.workers)

-- an element that passes is counted
count_some : {X : Type 0} (p : X → Bool) (xs : List X) (i : ℕ) (d : X) → i < length xs → p (get_or xs i d) ≡ true → 0 < count_by p xs
count_some p [] i d l h = absurd (omega arith)
count_some p (x ∷ xs) zero d l h =
    let one : ◌≡◌ {A = ℕ} (cond (p x) 1 0) 1 = ap (λ b. cond b 1 0) h in
    omega (arith, sum_by-cons (λ y. cond (p y) 1 0) x xs, one)
count_some p (x ∷ xs) (suc i) d l h =
    omega (arith, sum_by-cons (λ y. cond (p y) 1 0) x xs, count_some p xs i d (omega arith) h)

-- a build that waits is counted
pub waits_some : (b : BoardState) (counts : List ℕ) (id : ℕ) (job : BuildState) → id < length b.jobs → job ≡ get_or b.jobs id job → is_waiting job.phase ≡ true → AreWaiting b counts → 0 < slice_index counts job.build.worker
waits_some b counts id job l e waits are =
    let w = job.build.worker in
    let mine : waits_for w job ≡ true = ap (λ x. x && w == w) waits ∙ eq-eqb w w refl in
    omega (arith, are.waits w, count_some (waits_for w) b.jobs id job l (ap (waits_for w) (sym e) ∙ mine))

-- a change of a worker's readiness leaves the counts
pub waits_ready : (b : BoardState) (counts : List ℕ) (w : ℕ) (new : WorkerSlots) → AreWaiting b counts → AreWaiting (record { workers = set b.workers w new; maxima = b.maxima; jobs = b.jobs }) counts
waits_ready b counts w new are = record { workers = are.workers ∙ sym (length-set b.workers w new); waits = are.waits }

zeros : (n w : ℕ) → slice_index (replicate n 0) w ≡ 0
zeros zero w = refl
zeros (suc n) zero = refl
zeros (suc n) (suc w) = zeros n w

-- on a new board no build waits
pub waits_opening : (workers : List WorkerSlots) (maxima : List ℕ) (n : ℕ) → n ≡ length workers → AreWaiting (record { workers = workers; maxima = maxima; jobs = [] }) (replicate n 0)
waits_opening workers maxima n e =
    record { workers = length-replicate n 0 ∙ e; waits = λ w. zeros n w }

-- an element passes exactly where more than none pass
any_first : {X : Type 0} (p : X → Bool) (x : X) (xs : List X) (b : Bool) → p x ≡ b → nat_lt 0 (count_by p xs) ≡ list_any p xs
    → nat_lt 0 (count_by p (x ∷ xs)) ≡ list_any p (x ∷ xs)
any_first p x xs true e h =
    let one : ◌≡◌ {A = ℕ} (cond (p x) 1 0) 1 = ap (λ b. cond b 1 0) e in
    lt-ltb 0 _ (omega (arith, sum_by-cons (λ y. cond (p y) 1 0) x xs, one)) ∙ sym (ap (λ b. b || list_any p xs) e)
any_first p x xs false e h =
    let none : ◌≡◌ {A = ℕ} (cond (p x) 1 0) 0 = ap (λ b. cond b 1 0) e in
    let same : ◌≡◌ {A = ℕ} (count_by p (x ∷ xs)) (count_by p xs) = omega (arith, sum_by-cons (λ y. cond (p y) 1 0) x xs, none) in
    ap (nat_lt 0) same ∙ h ∙ sym (ap (λ b. b || list_any p xs) e)

any_is : {X : Type 0} (p : X → Bool) (xs : List X) → nat_lt 0 (count_by p xs) ≡ list_any p xs
any_is p [] = refl
any_is p (x ∷ xs) = any_first p x xs (p x) refl (any_is p xs)

pub any_counted : {X : Type 0} (p : X → Bool) (xs : List X) (n : ℕ) → n ≡ count_by p xs → nat_lt 0 n ≡ list_any p xs
any_counted p xs n e = ap (nat_lt 0) e ∙ any_is p xs

-- where each element fails a test, none passes it
none_where : {X : Type 0} (p : X → Bool) (xs : List X) → All (λ x. p x ≡ false) xs → list_any p xs ≡ false
none_where p [] h = refl
none_where p (x ∷ xs) h = or_from (p x) (list_any p xs) (h 0 x (omega arith)) (none_where p xs (λ i d l. h (suc i) d (omega arith)))

-- a worker that isn't there has no build
pub has_none : (b : BoardState) (t : HeldCounts) (w : ℕ) → length b.workers ≤ w → IsKept b t → has_build b w ≡ false
has_none b t w past kept =
    none_where (occupies w) b.jobs
    (λ i d l.
    let job : BuildState = get_or b.jobs i d in
    let known = and_parts (nat_lt job.build.worker (length b.workers)) (are_good (length b.maxima) job.build.locks) (kept.known i d l) in
    let low = ltb-true job.build.worker (length b.workers) known.0 in
    false_from_ne_true (occupies w job) (λ e. absurd (omega (arith, low, past, eqb-true job.build.worker w (and_parts (is_holding job.phase) (job.build.worker == w) e).1))))

-- a worker that is there has a build exactly where a slot of it is taken
pub has_some : (b : BoardState) (t : HeldCounts) (w : ℕ) → w < length b.workers → IsKept b t → nat_lt 0 (slice_index t.taken w) ≡ has_build b w
has_some b t w low kept = any_counted (occupies w) b.jobs (slice_index t.taken w) (kept.counts.slots w low)

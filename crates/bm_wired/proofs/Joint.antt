-- What holds between a lane and its worker over connections that are cut.
use Rattle.std.proofs.Common.{◌≡◌, refl, sym, ◌∙◌, ap, subst, ℕ, zero, suc, ◌+◌, ◌≤◌, ◌<◌, ◌^◌, Bool, true, false, cond, ◌||◌, List, [], ◌∷◌, ◌++◌, map, length, take, drop, arith, inl, inr, ◌⊎◌}
use Rattle.std.specs.Prelude.{◌==◌, nat_le}
use Rattle.std.specs.List.{AllByRecursion}
use Rattle.std.proofs.lemmas.Bool.{eqb-true, or_cases}
use Rattle.std.proofs.lemmas.Bool.Decides.{nat_tests}
use Rattle.std.proofs.lemmas.Option.{slice_get_within}
use Rattle.bm_session.proofs.Pushed.{next}
use Rattle.bm_session.proofs.Taken.{and-right}
use Rattle.bm_session.specs.Events.{is_go}
use Rattle.bm_session.specs.declared.event.Event.{Event}
use Rattle.bm_session.specs.Trace.{Trace, begins_session, commands, is_fresh, items, refuses, starts}
use Rattle.bm_work.specs.Core.{Core}
use Rattle.bm_work.specs.Stream.{said}
use Rattle.bm_work.specs.declared.sent.Sent.{Sent}
use Rattle.bm_replay.specs.Schedule.{Worker, Scene, Act, new_worker, was_started, was_refused, requests_taken, is_schedule_from, scene_after, reported}
use Rattle.bm_replay.proofs.Agreement.{Agree}
use Rattle.bm_replay.proofs.Sessions.{was_started-push, requests_taken-push, was_refused-push}
use Rattle.bm_wired.specs.Cuts.{Joined, Link, Greeted, Stands, passed}
use Rattle.bm_wired.specs.Wired.{EntryIsSayable, bytes_in}
use Rattle.bm_wired.specs.Service.{IsSayable}
use Rattle.bm_wired.proofs.Sim.{Downward, starts_down, stops_down, asks_down, answers_down, down_bytes, FitsDown, FitsUp, Past, Upward, asks_up, answers_up, up_bytes, lane_of}
use Rattle.bm_wired.proofs.Parts.{all-append, all-map, fits-stays, map-both, past-push, refused-below, taken-stays}

-- ---- what is under way to the lane

-- how many requests are taken after request n
abbrev pub grown : ℕ → ℕ → ℕ
grown t n = t + cond (nat_le t n) 1 0

-- where t requests are taken, each of these is one of them, or the next one; m are taken then
abbrev pub Flows : ℕ → List Upward → ℕ → Type 0
Flows t [] m = t ≡ m
Flows t (asks_up n r ∷ us) m = (n ≤ t) × Flows (grown t n) us m
Flows t (answers_up n a ∷ us) m = Flows t us m

pub record AreUp (taken : ℕ) (core : Core) (up : List (List ℕ)) : Type 0 where
  pub ups : List Upward
  pub is : up ≡ map up_bytes ups
  pub fits : AllByRecursion (FitsUp core) ups
  pub end : ℕ
  pub flows : Flows taken ups end

-- what is to be sent again comes next, and then all is under way
pub record AreAgain (end : ℕ) (core : Core) (backlog : List Sent) : Type 0 where
  pub again : List Upward
  pub are : bytes_in backlog ≡ map up_bytes again
  pub fits : AllByRecursion (FitsUp core) again
  pub flows : Flows end again (length core.reports)

-- ---- what is under way to the worker

abbrev pub Fits : Trace → Downward → Type 0
Fits t (starts_down n k argv) = FitsDown t (starts_down n k argv)
Fits t (stops_down n k) = FitsDown t (stops_down n k)
Fits t (asks_down n q) = FitsDown t (asks_down n q)
Fits t (answers_down n v) = (n < 2 ^ 63) × (n < requests_taken t)

pub record AreDown (t : Trace) (down : List (List ℕ)) : Type 0 where
  pub downs : List Downward
  pub is : down ≡ map down_bytes downs
  pub fits : AllByRecursion (Fits t) downs

-- an order that is carried
abbrev pub IsKept : Trace → Sent → Type 0
IsKept t s = (d : Downward) × (s.bytes ≡ down_bytes d) × Fits t d

-- ---- the worker's side

-- it heard of the session
pub record Knowing (t : Trace) (core : Core) (up : List (List ℕ)) (link : Link) (backlog : List Sent) (whole : Bool) (w : Worker) : Type 0 where
  pub reports : w.reports ≡ core.reports
  pub past : Past t core w.ran
  pub sayable : AllByRecursion IsSayable core.reports
  pub answered : AllByRecursion (λ n. n < requests_taken t) core.answered
  pub upward : AreUp (requests_taken t) core up
  pub rest : whole ≡ true → link ≡ Stands → AreAgain upward.end core backlog
  pub unlike : link ≡ Greeted false → ⊥

-- it didn't: nothing comes from it, and no command of the session was refused
pub record Unknowing (t : Trace) (up : List (List ℕ)) (link : Link) (w : Worker) : Type 0 where
  pub new : w ≡ new_worker
  pub silent : up ≡ []
  pub apart : link ≡ Stands → ⊥
  pub unlike : link ≡ Greeted true → ⊥
  pub unrefused : (k : ℕ) → was_started t k ≡ true → was_refused t k ≡ false

abbrev pub Side : Trace → Core → List (List ℕ) → Link → List Sent → Bool → Bool → Worker → Type 0
Side t core up link backlog whole heard w = ((heard ≡ true) × Knowing t core up link backlog whole w) ⊎ ((heard ≡ false) × Unknowing t up link w)

abbrev pub SideOf : Joined → Worker → Type 0
SideOf x w = Side x.wired.lane.trace x.wired.core x.wired.up x.link x.backlog x.whole x.heard w

pub record Parted (x : Joined) (w : Worker) : Type 0 where
  pub put : x.wired.lane.put ≡ items x.wired.lane.trace
  pub waits : AllByRecursion EntryIsSayable x.wired.outbox
  pub kept : AllByRecursion (IsKept x.wired.lane.trace) x.wired.carried.orders
  pub down : AreDown x.wired.lane.trace x.wired.down
  pub side : SideOf x w

pub record Joint (x : Joined) (w : Worker) : Type 0 where
  pub agree : Agree (said x.told) x.wired.lane.trace w
  pub parts : Parted x w

abbrev pub scene : ℕ → Joined → Worker → Scene
scene c x w = record { lane = lane_of c x.wired; worker = w }

-- one step, as some acts
pub record Stepped (c : ℕ) (x : Joined) (w : Worker) (y : Joined) : Type 0 where
  pub acts : List Act
  pub worker : Worker
  pub scheduled : is_schedule_from (scene c x w) acts ≡ true
  pub same : scene_after (scene c x w) acts ≡ scene c y worker
  pub told : y.told ≡ x.told ++ reported acts
  pub parts : Parted y worker

-- ---- lists

pub take-front : {A : Type 0} (xs ys : List A) → take (length xs) (xs ++ ys) ≡ xs
take-front [] [] = refl
take-front [] (y ∷ ys) = refl
take-front (x ∷ xs) ys = ap (λ zs. x ∷ zs) (take-front xs ys)

pub take-whole : {A : Type 0} (xs : List A) → take (length xs) xs ≡ xs
take-whole [] = refl
take-whole (x ∷ xs) = ap (λ zs. x ∷ zs) (take-whole xs)

pub take-more : {A : Type 0} (xs : List A) → take (suc (length xs)) xs ≡ xs
take-more [] = refl
take-more (x ∷ xs) = ap (λ zs. x ∷ zs) (take-more xs)

pub drop-front : {A : Type 0} (xs ys : List A) → drop (length xs) (xs ++ ys) ≡ ys
drop-front [] [] = refl
drop-front [] (y ∷ ys) = refl
drop-front (x ∷ xs) ys = drop-front xs ys

pub drop-whole : {A : Type 0} (xs : List A) → drop (length xs) xs ≡ []
drop-whole [] = refl
drop-whole (x ∷ xs) = drop-whole xs

pub take-map : {A B : Type 0} (f : A → B) (i : ℕ) (xs : List A) → take i (map f xs) ≡ map f (take i xs)
take-map f zero [] = refl
take-map f zero (x ∷ xs) = refl
take-map f (suc i) [] = refl
take-map f (suc i) (x ∷ xs) = ap (λ zs. f x ∷ zs) (take-map f i xs)

pub all-take : {A : Type 0} (P : A → Type 0) (i : ℕ) (xs : List A) → AllByRecursion P xs → AllByRecursion P (take i xs)
all-take P zero [] h = tt
all-take P zero (x ∷ xs) h = tt
all-take P (suc i) [] h = tt
all-take P (suc i) (x ∷ xs) h = (h.0, all-take P i xs h.1)

pub passed-same : (b : Bool) (xs : List (List ℕ)) → passed b xs xs ≡ xs
passed-same true xs = refl
passed-same false xs = take-whole xs

pub passed-rest : (b : Bool) (x : List ℕ) (xs : List (List ℕ)) → passed b (x ∷ xs) xs ≡ xs
passed-rest true x xs = refl
passed-rest false x xs = take-more xs

-- ---- what flows

pub flows-append : (t : ℕ) (us : List Upward) (m : ℕ) (vs : List Upward) (l : ℕ) → Flows t us m → Flows m vs l → Flows t (us ++ vs) l
flows-append t [] m vs l h g = subst (λ i. Flows i vs l) (sym h) g
flows-append t (asks_up n r ∷ us) m vs l h g = (h.0, flows-append (grown t n) us m vs l h.1 g)
flows-append t (answers_up n a ∷ us) m vs l h g = flows-append t us m vs l h g

pub flows-take : (i t : ℕ) (us : List Upward) (m : ℕ) → Flows t us m → (l : ℕ) × Flows t (take i us) l
flows-take zero t [] m h = (t, refl)
flows-take zero t (u ∷ us) m h = (t, refl)
flows-take (suc i) t [] m h = (t, refl)
flows-take (suc i) t (asks_up n r ∷ us) m h = let x = flows-take i (grown t n) us m h.1 in (x.0, (h.0, x.1))
flows-take (suc i) t (answers_up n a ∷ us) m h = flows-take i t us m h

-- the first of them, by itself
pub flows-first : (t : ℕ) (u : Upward) (us : List Upward) (m : ℕ) → Flows t (u ∷ us) m → (l : ℕ) × Flows t (u ∷ []) l × Flows l us m
flows-first t (asks_up n r) us m h = (grown t n, (h.0, refl), h.1)
flows-first t (answers_up n a) us m h = (t, refl, h)

-- they stay within what was reported
pub flows-within : (core : Core) (t : ℕ) (us : List Upward) (m : ℕ) → t ≤ length core.reports → Flows t us m → AllByRecursion (FitsUp core) us → (t ≤ m) × (m ≤ length core.reports)
flows-within core t [] m l h f = let e : t ≡ m = h in (omega arith, omega arith)
flows-within core t (answers_up n a ∷ us) m l h f = flows-within core t us m l h f.1
flows-within core t (asks_up n r ∷ us) m l h f =
    let inside : n < length core.reports = slice_get_within core.reports n r f.0 in
    let here = sized (nat_le t n) refl inside in
    let rest = flows-within core (grown t n) us m here.1 h.1 f.1 in
    let a : t ≤ grown t n = here.0 in
    let b : grown t n ≤ m = rest.0 in
    (omega arith, rest.1)
  where
    sized : (b : Bool) → nat_le t n ≡ b → n < length core.reports → (t ≤ t + cond b 1 0) × (t + cond b 1 0 ≤ length core.reports)
    sized true e i = let less : t ≤ n = grind (arith, nat_tests) in (omega arith, omega arith)
    sized false e i = (omega arith, omega arith)

-- ---- an event more

pub counts : (t : Trace) (e : Event) → begins_session (next t e) ≡ false → requests_taken (t ++ e ∷ []) ≡ requests_taken t + cond (is_fresh (next t e)) 1 0
counts t e s = requests_taken-push t e ∙ ap (λ b. cond b 0 (requests_taken t + cond (is_fresh (next t e)) 1 0)) s

pub more-taken : (t : Trace) (e : Event) → begins_session (next t e) ≡ false → requests_taken t ≤ requests_taken (t ++ e ∷ [])
more-taken t e s = let m : requests_taken (t ++ e ∷ []) ≡ requests_taken t + cond (is_fresh (next t e)) 1 0 = counts t e s in omega arith

pub fits-next : (t : Trace) (e : Event) → begins_session (next t e) ≡ false → (d : Downward) → Fits t d → Fits (t ++ e ∷ []) d
fits-next t e s (starts_down n k argv) f = fits-stays t e s (starts_down n k argv) f
fits-next t e s (stops_down n k) f = f
fits-next t e s (asks_down n q) f = f
fits-next t e s (answers_down n v) f = (f.0, (let l : n < requests_taken t = f.1 in let m : requests_taken t ≤ requests_taken (t ++ e ∷ []) = more-taken t e s in omega arith))

pub kept-next : (t : Trace) (e : Event) (orders : List Sent) → begins_session (next t e) ≡ false → AllByRecursion (IsKept t) orders → AllByRecursion (IsKept (t ++ e ∷ [])) orders
kept-next t e orders s k = all-map (IsKept t) (IsKept (t ++ e ∷ [])) orders (λ o x. (x.0, x.1, fits-next t e s x.0 x.2)) k

pub down-next : (t : Trace) (e : Event) (down : List (List ℕ)) → begins_session (next t e) ≡ false → AreDown t down → AreDown (t ++ e ∷ []) down
down-next t e down s d = record { downs = d.downs; is = d.is; fits = all-map (Fits t) (Fits (t ++ e ∷ [])) d.downs (fits-next t e s) d.fits }

-- more goes down, where the connection isn't cut
pub down-more : (b : Bool) (t : Trace) (down : List (List ℕ)) (ds : List Downward) → AreDown t down → AllByRecursion (Fits t) ds → AreDown t (passed b down (down ++ map down_bytes ds))
down-more true t down ds d f = record {
  downs = d.downs ++ ds;
  is = ap (λ xs. xs ++ map down_bytes ds) d.is ∙ sym (map-both down_bytes d.downs ds);
  fits = all-append (Fits t) d.downs ds d.fits f;
}
down-more false t down ds d f = subst (AreDown t) (sym (take-front down (map down_bytes ds))) d

-- an event that is no request, begins no session and refuses nothing
pub side-quiet : (t : Trace) (e : Event) (core : Core) (up : List (List ℕ)) (link : Link) (backlog : List Sent) (whole heard : Bool) (w : Worker) → begins_session (next t e) ≡ false → is_fresh (next t e) ≡ false → ((k : ℕ) → refuses t k e ≡ false)
    → Side t core up link backlog whole heard w → Side (t ++ e ∷ []) core up link backlog whole heard w
side-quiet t e core up link backlog whole heard w s f nr (inl x) =
    let same : requests_taken (t ++ e ∷ []) ≡ requests_taken t = taken-stays t e s f in
    let k = x.1 in
    inl (
      x.0,
      record {
        reports = k.reports;
        past = past-push t e core w.ran s (λ j y. let z : refuses t j e ≡ false = nr j in cc) k.past;
        sayable = k.sayable;
        answered = subst (λ n. AllByRecursion (λ i. i < n) core.answered) (sym same) k.answered;
        upward = let u = k.upward in record { ups = u.ups; is = u.is; fits = u.fits; end = u.end; flows = subst (λ n. Flows n u.ups u.end) (sym same) u.flows };
        rest = k.rest;
        unlike = k.unlike;
      },
    )
side-quiet t e core up link backlog whole heard w s f nr (inr x) =
    let u = x.1 in
    inr (
      x.0,
      record {
        new = u.new;
        silent = u.silent;
        apart = u.apart;
        unlike = u.unlike;
        unrefused = λ k st. was_refused-push t e k ∙ ap (λ b. was_refused t k || b) (nr k) ∙ still k (was_refused t k) refl (or_cases (was_started t k) (starts k (next t e)) (sym (was_started-push t e k ∙ ap (λ b. cond b false (was_started t k || starts k (next t e))) s) ∙ st));
      },
    )
  where
    still : (k : ℕ) (b : Bool) → was_refused t k ≡ b → (was_started t k ≡ true) ⊎ (starts k (next t e) ≡ true) → (b || false) ≡ false
    still k false g h = refl
    still k true g (inl st) = let z : was_refused t k ≡ false = x.1.unrefused k st in cc
    still k true g (inr st) =
        let l : k < commands t = refused-below t k g in
        let q : commands t ≡ k = eqb-true (commands t) k (and-right (is_go e) (commands t == k) st) in
        absurd (omega arith)

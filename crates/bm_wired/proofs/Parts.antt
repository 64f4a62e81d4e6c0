-- What a move does to the parts of what holds.
use Rattle.std.proofs.Common.{◌≡◌, refl, sym, ◌∙◌, ap, subst, ℕ, ◌+◌, ◌≤◌, ◌<◌, ◌^◌, Bool, true, false, cond, ◌||◌, ◌&&◌, List, [], ◌∷◌, ◌++◌, map, length, Some, arith, inl, inr, ◌⊎◌}
use Rattle.std.specs.Prelude.{◌==◌}
use Rattle.std.specs.FinMap.{get}
use Rattle.std.specs.List.{AllByRecursion}
use Rattle.std.proofs.lemmas.Bool.{eqb-true, or_cases}
use Rattle.bm_session.proofs.Snoc.{snoc_induction}
use Rattle.bm_session.proofs.Taken.{and-left, and-right}
use Rattle.bm_session.proofs.Pushed.{next, commands-push, orders-push, was_order-push}
use Rattle.bm_session.specs.declared.event.Event.{Event}
use Rattle.bm_session.specs.declared.event.Event.TheVariants.{Up, In, Go, Stop, Cut, Down}
use Rattle.bm_session.specs.declared.event.Body.TheVariants.{Auth, Update, Complete, BadArgs, NoSuchOp, Answered}
use Rattle.bm_session.specs.Events.{is_order, is_go}
use Rattle.bm_session.specs.Trace.{Trace, commands, orders, was_order, begins_session, is_fresh, starts, refuses}
use Rattle.bm_work.specs.Core.{Core}
use Rattle.bm_work.specs.declared.worker_answer.WorkerAnswer.{WorkerAnswer}
use Rattle.bm_replay.specs.Schedule.{was_started, was_refused, requests_taken}
use Rattle.bm_replay.proofs.Lists.{or-first}
use Rattle.bm_replay.proofs.Sessions.{was_started-push, requests_taken-push, was_refused-push}
use Rattle.bm_wired.proofs.Sim.{Upward, asks_up, answers_up, up_bytes, Follow, FitsUp, Ups, Downward, starts_down, stops_down, asks_down, answers_down, down_bytes, Descend, FitsDown, Downs, Past}

pub all-append : {A : Type 0} (P : A → Type 0) (xs ys : List A) → AllByRecursion P xs → AllByRecursion P ys → AllByRecursion P (xs ++ ys)
all-append P [] ys p q = q
all-append P (x ∷ xs) ys p q = (p.0, all-append P xs ys p.1 q)

pub all-map : {A : Type 0} (P Q : A → Type 0) (xs : List A) → ((x : A) → P x → Q x) → AllByRecursion P xs → AllByRecursion Q xs
all-map P Q [] f p = tt
all-map P Q (x ∷ xs) f p = (f x p.0, all-map P Q xs f p.1)

pub map-both : {A B : Type 0} (f : A → B) (xs ys : List A) → map f (xs ++ ys) ≡ map f xs ++ map f ys
map-both f [] ys = refl
map-both f (x ∷ xs) ys = ap (λ zs. f x ∷ zs) (map-both f xs ys)

pub follow-append : (n : ℕ) (us : List Upward) (m : ℕ) (vs : List Upward) (l : ℕ) → Follow n us m → Follow m vs l → Follow n (us ++ vs) l
follow-append n [] m vs l h g = subst (λ i. Follow i vs l) (sym h) g
follow-append n (asks_up i r ∷ us) m vs l h g = (h.0, follow-append (n + 1) us m vs l h.1 g)
follow-append n (answers_up i a ∷ us) m vs l h g = follow-append n us m vs l h g

pub descend-append : (o a : ℕ) (ds : List Downward) (o2 a2 : ℕ) (es : List Downward) (o3 a3 : ℕ) → Descend o a ds o2 a2 → Descend o2 a2 es o3 a3 → Descend o a (ds ++ es) o3 a3
descend-append o a [] o2 a2 es o3 a3 h g = subst (λ i. Descend i a es o3 a3) (sym h.0) (subst (λ j. Descend o2 j es o3 a3) (sym h.1) g)
descend-append o a (starts_down n k argv ∷ ds) o2 a2 es o3 a3 h g = (h.0, descend-append (o + 1) a ds o2 a2 es o3 a3 h.1 g)
descend-append o a (stops_down n k ∷ ds) o2 a2 es o3 a3 h g = (h.0, descend-append (o + 1) a ds o2 a2 es o3 a3 h.1 g)
descend-append o a (asks_down n q ∷ ds) o2 a2 es o3 a3 h g = (h.0, descend-append o (a + 1) ds o2 a2 es o3 a3 h.1 g)
descend-append o a (answers_down n v ∷ ds) o2 a2 es o3 a3 h g = descend-append o a ds o2 a2 es o3 a3 h g

-- more goes up

pub ups-add : (taken : ℕ) (core core2 : Core) (up : List (List ℕ)) (vs : List Upward) → ((u : Upward) → FitsUp core u → FitsUp core2 u) → Follow (length core.reports) vs (length core2.reports) → AllByRecursion (FitsUp core2) vs
    → Ups taken core up → Ups taken core2 (up ++ map up_bytes vs)
ups-add taken core core2 up vs still more fit u = record {
  ups = u.ups ++ vs;
  is = ap (λ xs. xs ++ map up_bytes vs) u.is ∙ sym (map-both up_bytes u.ups vs);
  follow = follow-append taken u.ups (length core.reports) vs (length core2.reports) u.follow more;
  fits = all-append (FitsUp core2) u.ups vs (all-map (FitsUp core) (FitsUp core2) u.ups still u.fits) fit;
}

-- more goes down

pub downs-add : (t t2 : Trace) (asked asked2 : ℕ) (core : Core) (down : List (List ℕ)) (ds : List Downward) → ((d : Downward) → FitsDown t d → FitsDown t2 d) → Descend (orders t) asked ds (orders t2) asked2 → AllByRecursion (FitsDown t2) ds → (asked ≤ 2 ^ 63 → asked2 ≤ 2 ^ 63)
    → Downs t asked core down → Downs t2 asked2 core (down ++ map down_bytes ds)
downs-add t t2 asked asked2 core down ds still more fit low d = record {
  downs = d.downs ++ ds;
  order = d.order;
  ask = d.ask;
  is = ap (λ xs. xs ++ map down_bytes ds) d.is ∙ sym (map-both down_bytes d.downs ds);
  descend = descend-append d.order d.ask d.downs (orders t) asked ds (orders t2) asked2 d.descend more;
  fits = all-append (FitsDown t2) d.downs ds (all-map (FitsDown t) (FitsDown t2) d.downs still d.fits) fit;
  asks_from = d.asks_from;
  asked_to = low d.asked_to;
  unheard = d.unheard;
}

-- an event more

pub order-stays : (t : Trace) (e : Event) (k n : ℕ) → was_order t k n ≡ true → was_order (t ++ e ∷ []) k n ≡ true
order-stays t e k n h = was_order-push t e k n ∙ or-first (was_order t k n) (starts k (next t e) && (orders t == n)) h

pub started-stays : (t : Trace) (e : Event) (k : ℕ) → begins_session (next t e) ≡ false → was_started t k ≡ true → was_started (t ++ e ∷ []) k ≡ true
started-stays t e k s h = was_started-push t e k ∙ ap (λ b. cond b false (was_started t k || starts k (next t e))) s ∙ or-first (was_started t k) (starts k (next t e)) h

pub fits-stays : (t : Trace) (e : Event) → begins_session (next t e) ≡ false → (d : Downward) → FitsDown t d → FitsDown (t ++ e ∷ []) d
fits-stays t e s (starts_down n k argv) f = (order-stays t e k n f.0, started-stays t e k s f.1, f.2, f.3, f.4)
fits-stays t e s (stops_down n k) f = f
fits-stays t e s (asks_down n q) f = f
fits-stays t e s (answers_down n v) f = f

pub taken-stays : (t : Trace) (e : Event) → begins_session (next t e) ≡ false → is_fresh (next t e) ≡ false → requests_taken (t ++ e ∷ []) ≡ requests_taken t
taken-stays t e s f = requests_taken-push t e ∙ ap (λ b. cond b 0 (requests_taken t + cond (is_fresh (next t e)) 1 0)) s ∙ ap (λ b. requests_taken t + cond b 1 0) f ∙ omega arith

pub orders-next : (t : Trace) (e : Event) (b : Bool) → begins_session (next t e) ≡ false → is_order e ≡ b → orders (t ++ e ∷ []) ≡ orders t + cond b 1 0
orders-next t e b s h = orders-push t e ∙ ap (λ x. cond x 0 (orders t + cond (is_order e) 1 0)) s ∙ ap (λ x. orders t + cond x 1 0) h

-- a command is started by one order alone

below-order : (t : Trace) (k n : ℕ) → was_order t k n ≡ true → k < commands t
below-order t k n = snoc_induction (λ t. was_order t k n ≡ true → k < commands t) (λ h. cc) step t
  where
    step : (t : Trace) (e : Event) → (was_order t k n ≡ true → k < commands t) → was_order (t ++ e ∷ []) k n ≡ true → k < commands (t ++ e ∷ [])
    step t e ih h = go (is_go e) refl (or_cases (was_order t k n) (starts k (next t e) && (orders t == n)) (sym (was_order-push t e k n) ∙ h))
      where
        go : (g : Bool) → is_go e ≡ g → (was_order t k n ≡ true) ⊎ ((starts k (next t e) && (orders t == n)) ≡ true) → k < commands (t ++ e ∷ [])
        go g x (inl y) = let l : k < commands t = ih y in let m : commands (t ++ e ∷ []) ≡ commands t + cond (is_go e) 1 0 = commands-push t e in omega arith
        go true x (inr y) =
            let m : commands (t ++ e ∷ []) ≡ commands t + 1 = commands-push t e ∙ ap (λ b. commands t + cond b 1 0) x in
            let s : commands t ≡ k = eqb-true (commands t) k (and-right (is_go e) (commands t == k) (and-left (starts k (next t e)) (orders t == n) y)) in
            omega arith
        go false x (inr y) = let z : is_go e ≡ true = and-left (is_go e) (commands t == k) (and-left (starts k (next t e)) (orders t == n) y) in cc

-- and a command whose start was refused is there
refuses-order : (t : Trace) (k : ℕ) (e : Event) → refuses t k e ≡ true → (n : ℕ) × (was_order t k n ≡ true)
refuses-order t k (In n (Answered true)) h = (n, h)
refuses-order t k (In n (Answered false)) h = cc
refuses-order t k (In n Auth) h = cc
refuses-order t k (In n (Update j batch rc)) h = cc
refuses-order t k (In n (Complete j fault)) h = cc
refuses-order t k (In n BadArgs) h = cc
refuses-order t k (In n NoSuchOp) h = cc
refuses-order t k Up h = cc
refuses-order t k Go h = cc
refuses-order t k (Stop j) h = cc
refuses-order t k Cut h = cc
refuses-order t k Down h = cc

pub refused-below : (t : Trace) (k : ℕ) → was_refused t k ≡ true → k < commands t
refused-below t k = snoc_induction (λ t. was_refused t k ≡ true → k < commands t) (λ h. cc) step t
  where
    step : (t : Trace) (e : Event) → (was_refused t k ≡ true → k < commands t) → was_refused (t ++ e ∷ []) k ≡ true → k < commands (t ++ e ∷ [])
    step t e ih h = let m : commands (t ++ e ∷ []) ≡ commands t + cond (is_go e) 1 0 = commands-push t e in elim (or_cases (was_refused t k) (refuses t k e) (sym (was_refused-push t e k) ∙ h)) [
      | inl x ↦ (let l : k < commands t = ih x in omega arith)
      | inr x ↦ (let y = refuses-order t k e x in let l : k < commands t = below-order t k y.0 y.1 in omega arith)
    ]

pub order-once : (t : Trace) (k n m : ℕ) → was_order t k n ≡ true → was_order t k m ≡ true → n ≡ m
order-once t k n m = snoc_induction (λ t. was_order t k n ≡ true → was_order t k m ≡ true → n ≡ m) (λ h g. cc) step t
  where
    old-new : (t : Trace) (e : Event) (i j : ℕ) → was_order t k i ≡ true → (starts k (next t e) && (orders t == j)) ≡ true → ⊥
    old-new t e i j h g =
        let l : k < commands t = below-order t k i h in
        let s : commands t ≡ k = eqb-true (commands t) k (and-right (is_go e) (commands t == k) (and-left (starts k (next t e)) (orders t == j) g)) in
        omega arith

    step : (t : Trace) (e : Event) → (was_order t k n ≡ true → was_order t k m ≡ true → n ≡ m) → was_order (t ++ e ∷ []) k n ≡ true → was_order (t ++ e ∷ []) k m ≡ true → n ≡ m
    step t e ih h g = go (or_cases (was_order t k n) (starts k (next t e) && (orders t == n)) (sym (was_order-push t e k n) ∙ h)) (or_cases (was_order t k m) (starts k (next t e) && (orders t == m)) (sym (was_order-push t e k m) ∙ g))
      where
        go : (was_order t k n ≡ true) ⊎ ((starts k (next t e) && (orders t == n)) ≡ true) → (was_order t k m ≡ true) ⊎ ((starts k (next t e) && (orders t == m)) ≡ true) → n ≡ m
        go (inl x) (inl y) = ih x y
        go (inl x) (inr y) = absurd (old-new t e n m x y)
        go (inr x) (inl y) = absurd (old-new t e m n y x)
        go (inr x) (inr y) = sym (eqb-true (orders t) n (and-right (starts k (next t e)) (orders t == n) x)) ∙ eqb-true (orders t) m (and-right (starts k (next t e)) (orders t == m) y)

pub past-push : (t : Trace) (e : Event) (core : Core) (ran : List ℕ) → begins_session (next t e) ≡ false → ((k : ℕ) → refuses t k e ≡ true → (n : ℕ) × (a : WorkerAnswer) × (was_order t k n ≡ true) × (get core.answers n ≡ Some a)) → Past t core ran → Past (t ++ e ∷ []) core ran
past-push t e core ran on by p = record {
  running = p.running;
  ran_by = λ k h. let x = p.ran_by k h in (x.0, order-stays t e k x.0 x.1, x.2);
  refused_by = λ k h st. later k (here k st) (or_cases (was_refused t k) (refuses t k e) (sym (was_refused-push t e k) ∙ h));
}
  where
    here : (k : ℕ) → was_started (t ++ e ∷ []) k ≡ true → (was_started t k ≡ true) ⊎ (starts k (next t e) ≡ true)
    here k st = or_cases (was_started t k) (starts k (next t e)) (sym (was_started-push t e k ∙ ap (λ b. cond b false (was_started t k || starts k (next t e))) on) ∙ st)

    later : (k : ℕ) → (was_started t k ≡ true) ⊎ (starts k (next t e) ≡ true) → (was_refused t k ≡ true) ⊎ (refuses t k e ≡ true) → (n : ℕ) × (a : WorkerAnswer) × (was_order (t ++ e ∷ []) k n ≡ true) × (get core.answers n ≡ Some a)
    later k (inl st) (inl h) = let x = p.refused_by k h st in (x.0, x.1, order-stays t e k x.0 x.2, x.3)
    later k (inr st) (inl h) =
        let l : k < commands t = refused-below t k h in
        let s : commands t ≡ k = eqb-true (commands t) k (and-right (is_go e) (commands t == k) st) in
        absurd (omega arith)
    later k st (inr h) = let x = by k h in (x.0, x.1, order-stays t e k x.0 x.2, x.3)

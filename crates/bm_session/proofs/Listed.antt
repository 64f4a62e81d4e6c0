-- The open commands and what is kept of each, where one event comes after the trace.
use Rattle.std.proofs.Common.{◌≡◌, refl, sym, ◌∙◌, ap, ℕ, zero, suc, ◌+◌, ◌<◌, ◌≤◌, Bool, true, false, cond, not, ◌||◌, ◌&&◌, List, [], ◌∷◌, ◌++◌, map, Option, Some, None, arith, inl, inr}
use Rattle.std.specs.Prelude.{◌==◌, ◌⊎◌, nat_lt, is_none, option_map, unwrap_or}
use Rattle.std.specs.List.{find, filter}
use Rattle.std.specs.Option.{option_or}
use Rattle.std.proofs.lemmas.Bool.{cases_lt}
use Rattle.std.proofs.lemmas.Bool.Decides.{nat_tests}
use Rattle.bm_session.proofs.Snoc.{snoc_induction, find-push, filter-push, and-false, and-true, or-false}
use Rattle.bm_session.proofs.Pushed.{next, moments-push, commands-push, was_order-push, ending-push}
use Rattle.bm_session.proofs.Taken.{and-left, not-started, IsNothing, is_open-push, ends-no}
use Rattle.bm_session.specs.declared.event.Event.{Event}
use Rattle.bm_session.specs.declared.event.Event.TheVariants.{Up, In, Go, Stop, Cut, Down}
use Rattle.bm_session.specs.Events.{is_go}
use Rattle.bm_session.specs.Trace.{Trace, Moment, moments, below, commands, orders, starts, was_order, ends_at, ending, is_open, open_commands}
use Rattle.bm_session.specs.Table.{start_order}

-- Lists of numbers below another

filter-below : (p q : ℕ → Bool) (n : ℕ) → ((k : ℕ) → k < n → p k ≡ q k) → filter p (below n) ≡ filter q (below n)
filter-below p q zero h = refl
filter-below p q (suc n) h =
    filter-push p (below n) n
    ∙ ap (λ ys. ys ++ cond (p n) (n ∷ []) []) (filter-below p q n (λ k l. h k (omega arith)))
    ∙ ap (λ b. filter q (below n) ++ cond b (n ∷ []) []) (h n (omega arith))
    ∙ sym (filter-push q (below n) n)

pub map-append : {A B : Type 0} (f : A → B) (xs ys : List A) → map f (xs ++ ys) ≡ map f xs ++ map f ys
map-append f [] ys = refl
map-append f (x ∷ xs) ys = ap (λ zs. f x ∷ zs) (map-append f xs ys)

map-below : {A : Type 0} (f g : ℕ → A) (p : ℕ → Bool) (n : ℕ) → ((k : ℕ) → k < n → p k ≡ true → f k ≡ g k) → map f (filter p (below n)) ≡ map g (filter p (below n))
map-below f g p zero h = refl
map-below {A} f g p (suc n) h =
    ap (map f) (filter-push p (below n) n)
    ∙ map-append f (filter p (below n)) (cond (p n) (n ∷ []) [])
    ∙ ap (λ ys. ys ++ map f (cond (p n) (n ∷ []) [])) (map-below f g p n (λ k l e. h k (omega arith) e))
    ∙ ap (λ ys. map g (filter p (below n)) ++ ys) (go (p n) (h n (omega arith)))
    ∙ sym (map-append g (filter p (below n)) (cond (p n) (n ∷ []) []))
    ∙ sym (ap (map g) (filter-push p (below n) n))
  where
    go : (b : Bool) → (b ≡ true → f n ≡ g n) → map f (cond b (n ∷ []) []) ≡ map g (cond b (n ∷ []) [])
    go true e = ap (λ x. x ∷ []) (e refl)
    go false e = refl

filter-filter : {A : Type 0} (p q : A → Bool) (xs : List A) → filter q (filter p xs) ≡ filter (λ x. p x && q x) xs
filter-filter p q [] = refl
filter-filter p q (x ∷ xs) = go (p x) (q x) refl (filter-filter p q xs)
  where
    go : (a b : Bool) → q x ≡ b → filter q (filter p xs) ≡ filter (λ y. p y && q y) xs → filter q (cond a (x ∷ filter p xs) (filter p xs)) ≡ cond (a && b) (x ∷ filter (λ y. p y && q y) xs) (filter (λ y. p y && q y) xs)
    go true true e ih = ap (λ c. cond c (x ∷ filter q (filter p xs)) (filter q (filter p xs))) e ∙ ap (λ ys. x ∷ ys) ih
    go true false e ih = ap (λ c. cond c (x ∷ filter q (filter p xs)) (filter q (filter p xs))) e ∙ ih
    go false b e ih = ih

pub filter-map : {A B : Type 0} (f : A → B) (p : B → Bool) (xs : List A) → filter p (map f xs) ≡ map f (filter (λ x. p (f x)) xs)
filter-map f p [] = refl
filter-map f p (x ∷ xs) = go (p (f x)) (filter-map f p xs)
  where
    go : (b : Bool) → filter p (map f xs) ≡ map f (filter (λ y. p (f y)) xs) → cond b (f x ∷ filter p (map f xs)) (filter p (map f xs)) ≡ map f (cond b (x ∷ filter (λ y. p (f y)) xs) (filter (λ y. p (f y)) xs))
    go true ih = ap (λ ys. f x ∷ ys) ih
    go false ih = ih

pub find-map : {A B : Type 0} (f : A → B) (p : B → Bool) (xs : List A) → find p (map f xs) ≡ option_map f (find (λ x. p (f x)) xs)
find-map f p [] = refl
find-map f p (x ∷ xs) = go (p (f x)) (find-map f p xs)
  where
    go : (b : Bool) → find p (map f xs) ≡ option_map f (find (λ y. p (f y)) xs) → cond b (Some (f x)) (find p (map f xs)) ≡ option_map f (cond b (Some x) (find (λ y. p (f y)) xs))
    go true ih = refl
    go false ih = ih

-- What holds at each open command

pub filter-open : (t : Trace) (p q : ℕ → Bool) → ((k : ℕ) → is_open t k ≡ true → p k ≡ q k) → filter p (open_commands t) ≡ filter q (open_commands t)
filter-open t p q h =
    filter-filter (is_open t) p (below (commands t))
    ∙ filter-below (λ k. is_open t k && p k) (λ k. is_open t k && q k) (commands t) (λ k l. go k (is_open t k) (h k))
    ∙ sym (filter-filter (is_open t) q (below (commands t)))
  where
    go : (k : ℕ) (b : Bool) → (b ≡ true → p k ≡ q k) → (b && p k) ≡ (b && q k)
    go k true e = e refl
    go k false e = refl

pub map-open : {A : Type 0} (t : Trace) (f g : ℕ → A) → ((k : ℕ) → is_open t k ≡ true → f k ≡ g k) → map f (open_commands t) ≡ map g (open_commands t)
map-open t f g h = map-below f g (is_open t) (commands t) (λ k l e. h k e)

-- of the open commands that pass a test
pub map-open-filter : {A : Type 0} (t : Trace) (q : ℕ → Bool) (f g : ℕ → A) → ((k : ℕ) → is_open t k ≡ true → f k ≡ g k) → map f (filter q (open_commands t)) ≡ map g (filter q (open_commands t))
map-open-filter t q f g h =
    ap (map f) (filter-filter (is_open t) q (below (commands t)))
    ∙ map-below f g (λ k. is_open t k && q k) (commands t) (λ k l e. h k (and-left (is_open t k) (q k) e))
    ∙ sym (ap (map g) (filter-filter (is_open t) q (below (commands t))))

filter-all : {A : Type 0} (xs : List A) → filter (λ _. true) xs ≡ xs
filter-all [] = refl
filter-all (x ∷ xs) = ap (λ ys. x ∷ ys) (filter-all xs)

filter-none : {A : Type 0} (xs : List A) → filter (λ _. false) xs ≡ []
filter-none [] = refl
filter-none (x ∷ xs) = filter-none xs

-- The open commands

-- where no command starts, those that do not end stay open
pub open_commands-push : (t : Trace) (e : Event) → is_go e ≡ false → open_commands (t ++ e ∷ []) ≡ filter (λ k. not (ends_at k (next t e))) (open_commands t)
open_commands-push t e g =
    let same : commands (t ++ e ∷ []) ≡ commands t = commands-push t e ∙ ap (λ b. commands t + cond b 1 0) g ∙ omega arith in
    ap (λ n. filter (is_open (t ++ e ∷ [])) (below n)) same
    ∙ filter-below (is_open (t ++ e ∷ [])) (λ k. is_open t k && not (ends_at k (next t e))) (commands t) (λ k l. is_open-push t e k l)
    ∙ sym (filter-filter (is_open t) (λ k. not (ends_at k (next t e))) (below (commands t)))

-- where none ends
pub open_commands-keep : (t : Trace) (e : Event) → is_go e ≡ false → ((k : ℕ) → is_open t k ≡ true → ends_at k (next t e) ≡ false) → open_commands (t ++ e ∷ []) ≡ open_commands t
open_commands-keep t e g h =
    open_commands-push t e g
    ∙ filter-open t (λ k. not (ends_at k (next t e))) (λ _. true) (λ k o. ap not (h k o))
    ∙ filter-all (open_commands t)

pub open_commands-down : (t : Trace) → open_commands (t ++ Down ∷ []) ≡ []
open_commands-down t =
    open_commands-push t Down refl
    ∙ filter-open t (λ k. not (ends_at k (next t Down))) (λ _. false) (λ k o. ap (λ b. not (b && true)) (and-left (nat_lt k (commands t)) (is_none (ending t k)) o))
    ∙ filter-none (open_commands t)

pub is_open-go : (t : Trace) → is_open (t ++ Go ∷ []) (commands t) ≡ true
is_open-go t =
    let more : commands (t ++ Go ∷ []) ≡ commands t + 1 = commands-push t Go in
    let inside : nat_lt (commands t) (commands (t ++ Go ∷ [])) ≡ true = grind (arith, nat_tests) in
    let nothing : IsNothing t (commands t) = not-started t (commands t) (omega arith) in
    let none : ending (t ++ Go ∷ []) (commands t) ≡ None =
    ending-push t Go (commands t) ∙ ap (λ o. option_or o (cond (ends_at (commands t) (next t Go)) (Some (next t Go)) None)) nothing.no_end
    ∙ ap (λ b. cond b (Some (next t Go)) None) (ends-no t (commands t)).1 in
    ap (λ b. b && is_none (ending (t ++ Go ∷ []) (commands t))) inside ∙ ap (λ o. is_none o) none

pub open_commands-go : (t : Trace) → open_commands (t ++ Go ∷ []) ≡ open_commands t ++ commands t ∷ []
open_commands-go t =
    let more : commands (t ++ Go ∷ []) ≡ suc (commands t) = commands-push t Go ∙ omega arith in
    ap (λ n. filter (is_open (t ++ Go ∷ [])) (below n)) more
    ∙ filter-push (is_open (t ++ Go ∷ [])) (below (commands t)) (commands t)
    ∙ ap (λ b. filter (is_open (t ++ Go ∷ [])) (below (commands t)) ++ cond b (commands t ∷ []) []) (is_open-go t)
    ∙ ap (λ ys. ys ++ commands t ∷ []) (filter-below (is_open (t ++ Go ∷ [])) (is_open t) (commands t) (λ k l. is_open-push t Go k l ∙ ap (λ b. is_open t k && not b) (ends-no t k).1 ∙ and-true (is_open t k)))

-- The orders that started them

unstarted : (t : Trace) (e : Event) (k : ℕ) → k < commands t → starts k (next t e) ≡ false
unstarted t e k l = let other : (commands t == k) ≡ false = grind (arith, nat_tests) in ap (λ b. is_go e && b) other ∙ and-false (is_go e)

pub start_order-push : (t : Trace) (e : Event) (k : ℕ) → k < commands t → start_order (t ++ e ∷ []) k ≡ start_order t k
start_order-push t e k l =
    ap (λ ms. unwrap_or (option_map (λ (m : Moment). orders m.past) (find (starts k) ms)) 0) (moments-push t e)
    ∙ ap (λ o. unwrap_or (option_map (λ (m : Moment). orders m.past) o) 0) (find-push (starts k) (moments t) (next t e) ∙ ap (λ b. option_or (find (starts k) (moments t)) (cond b (Some (next t e)) None)) (unstarted t e k l) ∙ keep (find (starts k) (moments t)))
  where
    keep : (o : Option Moment) → option_or o None ≡ o
    keep None = refl
    keep (Some m) = refl

find-unstarted : (t : Trace) (k : ℕ) → commands t ≤ k → find (starts k) (moments t) ≡ None
find-unstarted = snoc_induction (λ t. (k : ℕ) → commands t ≤ k → find (starts k) (moments t) ≡ None) (λ k h. refl) step
  where
    step : (t : Trace) (e : Event) → ((k : ℕ) → commands t ≤ k → find (starts k) (moments t) ≡ None) → (k : ℕ) → commands (t ++ e ∷ []) ≤ k → find (starts k) (moments (t ++ e ∷ [])) ≡ None
    step t e ih k h =
        let grow : commands (t ++ e ∷ []) ≡ commands t + cond (is_go e) 1 0 = commands-push t e in
        ap (find (starts k)) (moments-push t e)
        ∙ find-push (starts k) (moments t) (next t e)
        ∙ ap (λ o. option_or o (cond (starts k (next t e)) (Some (next t e)) None)) (ih k (omega arith))
        ∙ ap (λ b. cond b (Some (next t e)) None) (no (is_go e) grow)
      where
        no : (g : Bool) → commands (t ++ e ∷ []) ≡ commands t + cond g 1 0 → (g && (commands t == k)) ≡ false
        no true grow = let l : commands t + 1 ≤ k = omega arith in grind (arith, nat_tests)
        no false grow = refl

pub start_order-go : (t : Trace) → start_order (t ++ Go ∷ []) (commands t) ≡ orders t
start_order-go t =
    let same : (commands t == commands t) ≡ true = grind (arith, nat_tests) in
    ap (λ ms. unwrap_or (option_map (λ (m : Moment). orders m.past) (find (starts (commands t)) ms)) 0) (moments-push t Go)
    ∙ ap (λ o. unwrap_or (option_map (λ (m : Moment). orders m.past) o) 0)
    (find-push (starts (commands t)) (moments t) (next t Go)
    ∙ ap (λ o. option_or o (cond (commands t == commands t) (Some (next t Go)) None)) (find-unstarted t (commands t) (omega arith))
    ∙ ap (λ b. cond b (Some (next t Go)) None) same)

-- the order of a command is the one that started it
pub was_order-start : (t : Trace) (k n : ℕ) → k < commands t → was_order t k n ≡ (start_order t k == n)
was_order-start = snoc_induction (λ t. (k n : ℕ) → k < commands t → was_order t k n ≡ (start_order t k == n)) (λ k n h. absurd (omega arith)) step
  where
    step : (t : Trace) (e : Event) → ((k n : ℕ) → k < commands t → was_order t k n ≡ (start_order t k == n)) → (k n : ℕ) → k < commands (t ++ e ∷ []) → was_order (t ++ e ∷ []) k n ≡ (start_order (t ++ e ∷ []) k == n)
    step t e ih k n h = go (cases_lt k (commands t))
      where
        grow : commands (t ++ e ∷ []) ≡ commands t + cond (is_go e) 1 0
        grow = commands-push t e

        new : (g : Bool) → commands (t ++ e ∷ []) ≡ commands t + cond g 1 0 → commands t ≤ k → (g ≡ true) × (k ≡ commands t)
        new true grow l = (refl, omega arith)
        new false grow l = absurd (omega arith)

        at-go : (x : Event) → is_go x ≡ true → x ≡ Go
        at-go Go g = refl
        at-go Up g = cc
        at-go Down g = cc
        at-go Cut g = cc
        at-go (Stop j) g = cc
        at-go (In m body) g = cc

        go : (k < commands t) ⊎ (commands t ≤ k) → was_order (t ++ e ∷ []) k n ≡ (start_order (t ++ e ∷ []) k == n)
        go (inl l) =
            was_order-push t e k n
            ∙ ap (λ b. was_order t k n || (b && (orders t == n))) (unstarted t e k l)
            ∙ or-false (was_order t k n)
            ∙ ih k n l
            ∙ ap (λ o. o == n) (sym (start_order-push t e k l))
        go (inr l) =
            let both : (is_go e ≡ true) × (k ≡ commands t) = new (is_go e) grow l in
            let nothing : IsNothing t k = not-started t k l in
            let on : (commands t == k) ≡ true = let at : k ≡ commands t = both.1 in grind (arith, nat_tests) in
            was_order-push t e k n
            ∙ ap (λ b. b || (starts k (next t e) && (orders t == n))) (nothing.no_order n)
            ∙ ap (λ b. (b && (commands t == k)) && (orders t == n)) both.0
            ∙ ap (λ b. b && (orders t == n)) on
            ∙ ap (λ o. o == n) (sym (start_order-go t) ∙ ap (λ x. start_order (t ++ x ∷ []) (commands t)) (sym (at-go e both.0)) ∙ ap (start_order (t ++ e ∷ [])) (sym both.1))

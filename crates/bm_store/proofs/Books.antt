-- What the items of a trace make of a book.
use Rattle.std.proofs.Common.{◌≡◌, refl, sym, ◌∙◌, ap, subst, ℕ, zero, suc, ◌≤◌, ◌<◌, Bool, true, false, cond, not, ◌||◌, ◌&&◌, List, [], ◌∷◌, ◌++◌, length, take, Option, Some, None, arith, inl, inr, append_assoc}
use Rattle.std.specs.Prelude.{◌==◌, ◌⊎◌, ℤ, nat_lt, is_none, map, option_map}
use Rattle.std.specs.List.{find, filter, fold, cons_option}
use Rattle.std.specs.Option.{option_or}
use Rattle.std.proofs.lemmas.List.{append-nil, take_at, map-append, length-append, length-map}
use Rattle.std.proofs.lemmas.List.Sums.{fold-append}
use Rattle.std.proofs.lemmas.Bool.{eqb-true, eq-eqb, cases_lt}
use Rattle.std.proofs.lemmas.Bool.Decides.{nat_tests}
use Rattle.bm_session.proofs.Snoc.{snoc_induction, find-push, filter-push, and-false}
use Rattle.bm_session.proofs.Pushed.{next, added, items-push, commands-push, ending-push, blocks-push}
use Rattle.bm_session.proofs.Taken.{IsSound, sound, was_taken-push, front-taken, and-left, and-right, ends-no, open-is-started, not-started, IsNothing}
use Rattle.bm_session.proofs.Visible.{find-passes, unproductive, same-arms, IsPrefix-refl, visible-is-prefix, productive-visible}
use Rattle.bm_session.specs.declared.event.Event.{Event}
use Rattle.bm_session.specs.declared.event.Event.TheVariants.{Up, In, Go, Stop, Cut, Down}
use Rattle.bm_session.specs.declared.event.Body.{Body}
use Rattle.bm_session.specs.declared.event.Body.TheVariants.{Auth, Update, Complete, BadArgs, NoSuchOp, Answered}
use Rattle.bm_session.specs.declared.item.Item.{Item}
use Rattle.bm_session.specs.declared.item.Item.TheVariants.{Lines, End, Gone}
use Rattle.bm_session.specs.declared.results.Results.{Results}
use Rattle.bm_session.specs.declared.results.Results.TheVariants.{Retry}
use Rattle.bm_lines.specs.Lines.{Line}
use mathlib.Core.Path.{fun_ext}
use Rattle.bm_lines.specs.Names.{Name}
use Rattle.bm_lines.specs.LineBatches.{blocks_under}
use Rattle.bm_lines.specs.declared.line_batch.LogLines.{LogLines}
use mathlib.Core.List.{IsPrefix}
use Rattle.bm_session.specs.Trace.{Trace, Moment, commands, was_order, ends_at, ending, is_open, open_commands, blocks, outcome, updates, is_fresh, below, is_empty, item, item_if, items, ended_by, result_at, was_taken, refusal, visible, productive}
use Rattle.bm_store.specs.Book.{Logs, no_logs, with_batch, with_end, change_at, after_item, book, logs_of, logs}
use Rattle.bm_store.specs.Laws.{BooksHaveTheLogs, VisibleBooksHaveTheLogs}

-- lists over 0, 1, .. below n

pub map-below : {A : Type 0} (f g : ℕ → A) (n : ℕ) → ((k : ℕ) → k < n → f k ≡ g k) → map f (below n) ≡ map g (below n)
map-below f g zero h = refl
map-below f g (suc n) h =
    let rest : map f (below n) ≡ map g (below n) = map-below f g n (λ k l. h k (omega arith)) in
    let last : f n ≡ g n = h n (omega arith) in
    map-append f (below n) (n ∷ []) ∙ rw (rest, last) (sym (map-append g (below n) (n ∷ [])))

pub length-below : (n : ℕ) → length (below n) ≡ n
length-below zero = refl
length-below (suc n) = length-append (below n) (n ∷ []) ∙ rw (length-below n) (omega arith)

change_at-left : {A : Type 0} (k : ℕ) (f : A → A) (xs ys : List A) → k < length xs → change_at k f (xs ++ ys) ≡ change_at k f xs ++ ys
change_at-left k f [] ys h = absurd (omega arith)
change_at-left zero f (x ∷ xs) ys h = refl
change_at-left (suc k) f (x ∷ xs) ys h = ap (λ l. x ∷ l) (change_at-left k f xs ys (omega arith))

change_at-last : {A : Type 0} (k : ℕ) (f : A → A) (xs : List A) (x : A) → k ≡ length xs → change_at k f (xs ++ x ∷ []) ≡ xs ++ f x ∷ []
change_at-last zero f [] x h = refl
change_at-last (suc k) f [] x h = absurd (omega arith)
change_at-last zero f (y ∷ ys) x h = absurd (omega arith)
change_at-last (suc k) f (y ∷ ys) x h = ap (λ l. y ∷ l) (change_at-last k f ys x (omega arith))

-- a change at k of a list over the numbers below n: the others stay
pub change-below : {A : Type 0} (k n : ℕ) (f : A → A) (g h : ℕ → A) → k < n → h k ≡ f (g k) → ((j : ℕ) → j < n → (j ≡ k → ⊥) → h j ≡ g j) → change_at k f (map g (below n)) ≡ map h (below n)
change-below k zero f g h l at others = absurd (omega arith)
change-below k (suc n) f g h l at others =
    ap (change_at k f) (map-append g (below n) (n ∷ [])) ∙ go (cases_lt k n) (λ s. change-below k n f g h s at (λ j i ne. others j (omega arith) ne)) ∙ sym (map-append h (below n) (n ∷ []))
  where
    size : length (map g (below n)) ≡ n
    size = length-map (below n) g ∙ length-below n

    go : (k < n) ⊎ (n ≤ k) → ((k < n) → change_at k f (map g (below n)) ≡ map h (below n)) → change_at k f (map g (below n) ++ g n ∷ []) ≡ map h (below n) ++ h n ∷ []
    go (inl s) rest =
        let last : h n ≡ g n = others n (omega arith) (λ e. omega arith) in
        change_at-left k f (map g (below n)) (g n ∷ []) (omega (arith, size)) ∙ rw (rest s, last)
    go (inr s) rest =
        let same : k ≡ n = omega arith in
        let last : h n ≡ f (g n) = subst (λ i. h i ≡ f (g i)) same at in
        let front : map g (below n) ≡ map h (below n) = map-below g h n (λ j i. sym (others j (omega arith) (λ e. omega arith))) in
        change_at-last k f (map g (below n)) (g n) (omega (arith, size)) ∙ rw (front, last)

-- `find` among the open commands

find-filter : {A : Type 0} (p q : A → Bool) (xs : List A) → find p (filter q xs) ≡ find (λ x. q x && p x) xs
find-filter p q [] = refl
find-filter p q (x ∷ xs) = go (q x) (find-filter p q xs)
  where
    go : (b : Bool) → find p (filter q xs) ≡ find (λ x. q x && p x) xs → find p (cond b (x ∷ filter q xs) (filter q xs)) ≡ cond (b && p x) (Some x) (find (λ x. q x && p x) xs)
    go true e = ap (cond (p x) (Some x)) e
    go false e = e

find-none : (p : ℕ → Bool) (n : ℕ) → find p (below n) ≡ None → (k : ℕ) → k < n → p k ≡ false
find-none p zero h k l = absurd (omega arith)
find-none p (suc n) h k l = go (find p (below n)) refl (p n) refl (sym (find-push p (below n) n) ∙ h) (λ f i. find-none p n f k i)
  where
    go : (o : Option ℕ) → find p (below n) ≡ o → (b : Bool) → p n ≡ b → option_or o (cond b (Some n) None) ≡ None → (find p (below n) ≡ None → k < n → p k ≡ false) → p k ≡ false
    go (Some x) e b f g later = cc
    go None e true f g later = cc
    go None e false f g later = elim (cases_lt k n) [ inl i ↦ later e i | inr i ↦ (let same : n ≡ k = omega arith in subst (λ j. p j ≡ false) same f) ]

-- an event's item, and what it does to the book
abbrev after_some : List Logs → Option Item → List Logs
after_some b None = b
after_some b (Some i) = after_item b i

book-push : (t : Trace) (e : Event) → book (items (t ++ e ∷ [])) ≡ after_some (book (items t)) (item t e)
book-push t e = ap book (items-push t e) ∙ fold-append after_item [] (items t) (cons_option (item t e) []) ∙ one (item t e)
  where
    one : (o : Option Item) → fold after_item (book (items t)) (cons_option o []) ≡ after_some (book (items t)) o
    one None = refl
    one (Some i) = refl

-- what the trace says of command k after one event more
ended-push : (t : Trace) (e : Event) (k : ℕ) → outcome (t ++ e ∷ []) k ≡ option_map (result_at k) (option_or (ending t k) (cond (ends_at k (next t e)) (Some (next t e)) None))
ended-push t e k = ap (option_map (result_at k)) (ending-push t e k)

-- the blocks stay under each name
blocks-same : (t : Trace) (e : Event) (k : ℕ) → ((name : Name) → added t k name e ≡ []) → blocks (t ++ e ∷ []) k ≡ blocks t k
blocks-same t e k none = fun_ext (λ name. blocks-push t e k name ∙ ap (λ l. blocks t k name ++ l) (none name) ∙ append-nil (blocks t k name))

logs_of-same : (t : Trace) (e : Event) (k : ℕ) → ((name : Name) → added t k name e ≡ []) → ((is_none (ending t k) ≡ true) → ends_at k (next t e) ≡ false) → logs_of (t ++ e ∷ []) k ≡ logs_of t k
logs_of-same t e k none stays =
    let ls : blocks (t ++ e ∷ []) k ≡ blocks t k = blocks-same t e k none in
    let end : outcome (t ++ e ∷ []) k ≡ outcome t k = ended-push t e k ∙ ap (option_map (result_at k)) (go (ending t k) stays) in
    ap (λ l. record { blocks = l; ended = outcome (t ++ e ∷ []) k }) ls ∙ ap (λ r. record { blocks = blocks t k; ended = r }) end
  where
    go : (o : Option Moment) → (is_none o ≡ true → ends_at k (next t e) ≡ false) → option_or o (cond (ends_at k (next t e)) (Some (next t e)) None) ≡ o
    go None h = ap (λ b. cond b (Some (next t e)) None) (h refl)
    go (Some m) h = refl

logs_of-ended : (t : Trace) (e : Event) (k : ℕ) → ((name : Name) → added t k name e ≡ []) → ending t k ≡ None → ends_at k (next t e) ≡ true → logs_of (t ++ e ∷ []) k ≡ with_end (result_at k (next t e)) (logs_of t k)
logs_of-ended t e k none runs ends =
    let ls : blocks (t ++ e ∷ []) k ≡ blocks t k = blocks-same t e k none in
    let end : outcome (t ++ e ∷ []) k ≡ Some (result_at k (next t e)) = ended-push t e k ∙ ap (λ o. option_map (result_at k) (option_or o (cond (ends_at k (next t e)) (Some (next t e)) None))) runs ∙ ap (λ b. option_map (result_at k) (cond b (Some (next t e)) None)) ends in
    let was : outcome t k ≡ None = ap (option_map (result_at k)) runs in
    let before : logs_of t k ≡ record { blocks = blocks t k; ended = None } = ap (λ r. record { blocks = blocks t k; ended = r }) was in
    ap (λ l. record { blocks = l; ended = outcome (t ++ e ∷ []) k }) ls ∙ ap (λ r. record { blocks = blocks t k; ended = r }) end ∙ sym (ap (with_end (result_at k (next t e))) before)

with_end-closed : (t : Trace) (k : ℕ) (r : Results) → is_none (ending t k) ≡ false → with_end r (logs_of t k) ≡ logs_of t k
with_end-closed t k r h = go (ending t k) h
  where
    go : (o : Option Moment) → is_none o ≡ false → with_end r (record { blocks = blocks t k; ended = option_map (result_at k) o }) ≡ record { blocks = blocks t k; ended = option_map (result_at k) o }
    go None e = cc
    go (Some m) e = refl

none-when : {A : Type 0} (o : Option A) → is_none o ≡ true → o ≡ None
none-when None h = refl
none-when (Some x) h = cc

-- a command that was started is open, or a place ends it
open-when : (t : Trace) (k : ℕ) → k < commands t → is_open t k ≡ is_none (ending t k)
open-when t k l = let b : nat_lt k (commands t) ≡ true = grind (arith, nat_tests) in ap (λ c. c && is_none (ending t k)) b

same-logs : (t : Trace) (e : Event) → commands (t ++ e ∷ []) ≡ commands t → ((k : ℕ) → k < commands t → logs_of (t ++ e ∷ []) k ≡ logs_of t k) → logs t ≡ logs (t ++ e ∷ [])
same-logs t e c h = map-below (logs_of t) (logs_of (t ++ e ∷ [])) (commands t) (λ k l. sym (h k l)) ∙ ap (λ n. map (logs_of (t ++ e ∷ [])) (below n)) (sym c)

length-logs : (t : Trace) → length (logs t) ≡ commands t
length-logs t = length-map (below (commands t)) (logs_of t) ∙ length-below (commands t)

step-Go : (t : Trace) → after_some (logs t) (item t Go) ≡ logs (t ++ Go ∷ [])
step-Go t =
    let same : (commands t == length (logs t)) ≡ true = eq-eqb (commands t) (length (logs t)) (sym (length-logs t)) in
    let grow : commands (t ++ Go ∷ []) ≡ suc (commands t) = commands-push t Go ∙ omega arith in
    let none : IsNothing t (commands t) = not-started t (commands t) (omega arith) in
    let ls : blocks (t ++ Go ∷ []) (commands t) ≡ (λ (name : Name). []) = fun_ext (λ name. blocks-push t Go (commands t) name ∙ rw (none.no_blocks name) refl) in
    let end : outcome (t ++ Go ∷ []) (commands t) ≡ None = ended-push t Go (commands t) ∙ ap (λ o. option_map (result_at (commands t)) (option_or o (cond (ends_at (commands t) (next t Go)) (Some (next t Go)) None))) none.no_end ∙ ap (λ b. option_map (result_at (commands t)) (cond b (Some (next t Go)) None)) (ends-no t (commands t)).1 in
    let new : logs_of (t ++ Go ∷ []) (commands t) ≡ no_logs = ap (λ l. record { blocks = l; ended = outcome (t ++ Go ∷ []) (commands t) }) ls ∙ ap (λ r. record { blocks = λ (name : Name). []; ended = r }) end in
    let front : map (logs_of t) (below (commands t)) ≡ map (logs_of (t ++ Go ∷ [])) (below (commands t)) = map-below (logs_of t) (logs_of (t ++ Go ∷ [])) (commands t) (λ k l. sym (logs_of-same t Go k (λ name. refl) (λ n. (ends-no t k).1))) in
    ap (λ b. cond b (logs t ++ no_logs ∷ []) (logs t)) same
    ∙ ap (λ l. l ++ no_logs ∷ []) front
    ∙ ap (λ x. map (logs_of (t ++ Go ∷ [])) (below (commands t)) ++ x ∷ []) (sym new)
    ∙ sym (map-append (logs_of (t ++ Go ∷ [])) (below (commands t)) (commands t ∷ []))
    ∙ ap (λ n. map (logs_of (t ++ Go ∷ [])) (below n)) (sym grow)

empty-none : (q : ℕ → Bool) (n : ℕ) → is_empty (filter q (below n)) ≡ true → (k : ℕ) → k < n → q k ≡ false
empty-none q zero h k l = absurd (omega arith)
empty-none q (suc n) h k l = go (filter q (below n)) refl (q n) refl (sym (ap is_empty (filter-push q (below n) n)) ∙ h) (λ f i. empty-none q n f k i)
  where
    go : (xs : List ℕ) → filter q (below n) ≡ xs → (b : Bool) → q n ≡ b → is_empty (xs ++ cond b (n ∷ []) []) ≡ true → (is_empty (filter q (below n)) ≡ true → k < n → q k ≡ false) → q k ≡ false
    go [] e true f g later = cc
    go [] e false f g later = elim (cases_lt k n) [ inl i ↦ later (ap is_empty e) i | inr i ↦ (let same : n ≡ k = omega arith in subst (λ j. q j ≡ false) same f) ]
    go (x ∷ xs) e b f g later = cc

map-map : {A B C : Type 0} (f : B → C) (g : A → B) (xs : List A) → map f (map g xs) ≡ map (λ x. f (g x)) xs
map-map f g [] = refl
map-map f g (x ∷ xs) = ap (λ l. f (g x) ∷ l) (map-map f g xs)

step-Down : (t : Trace) → after_some (logs t) (item t Down) ≡ logs (t ++ Down ∷ [])
step-Down t = go (is_empty (open_commands t)) refl
  where
    same : commands (t ++ Down ∷ []) ≡ commands t
    same = commands-push t Down ∙ omega arith

    closed : (k : ℕ) → is_none (ending t k) ≡ false → logs_of (t ++ Down ∷ []) k ≡ logs_of t k
    closed k h = logs_of-same t Down k (λ name. refl) (λ n. cc)

    lost : (k : ℕ) → k < commands t → (b : Bool) → is_none (ending t k) ≡ b → logs_of (t ++ Down ∷ []) k ≡ with_end Retry (logs_of t k)
    lost k l false h = closed k h ∙ sym (with_end-closed t k Retry h)
    lost k l true h =
        let below' : nat_lt k (commands t) ≡ true = grind (arith, nat_tests) in
        logs_of-ended t Down k (λ name. refl) (none-when (ending t k) h) (ap (λ b. b && true) below')

    go : (b : Bool) → is_empty (open_commands t) ≡ b → after_some (logs t) (item_if (not b) Gone) ≡ logs (t ++ Down ∷ [])
    go true h = same-logs t Down same (λ k l. closed k (sym (open-when t k l) ∙ empty-none (is_open t) (commands t) h k l))
    go false h =
        map-map (with_end Retry) (logs_of t) (below (commands t))
        ∙ map-below (λ k. with_end Retry (logs_of t k)) (logs_of (t ++ Down ∷ [])) (commands t) (λ k l. sym (lost k l (is_none (ending t k)) refl))
        ∙ ap (λ n. map (logs_of (t ++ Down ∷ [])) (below n)) (sym same)

-- an update

-- the blocks of each name, and more
abbrev more_blocks : (Name → List (List Line)) → List LogLines → Name → List (List Line)
more_blocks f batch name = f name ++ blocks_under name batch

with_batch-open : (t : Trace) (k : ℕ) (batch : List LogLines) → ending t k ≡ None → with_batch batch (logs_of t k) ≡ record { blocks = more_blocks (blocks t k) batch; ended = None }
with_batch-open t k batch h = ap (λ o. with_batch batch (record { blocks = blocks t k; ended = option_map (result_at k) o })) h

step-Update : (t : Trace) (n j : ℕ) (batch : List LogLines) (rc : Option ℤ) → after_some (logs t) (item t (In n (Update j batch rc))) ≡ logs (t ++ In n (Update j batch rc) ∷ [])
step-Update t n j batch rc = go (updates j (next t e)) refl
  where
    e : Event
    e = In n (Update j batch rc)

    same : commands (t ++ In n (Update j batch rc) ∷ []) ≡ commands t
    same = commands-push t (In n (Update j batch rc)) ∙ omega arith

    no-ending : (a f : Bool) → (a && ((f && false) || false)) ≡ false
    no-ending true true = refl
    no-ending true false = refl
    no-ending false f = refl

    stays : (k : ℕ) → ends_at k (next t (In n (Update j batch rc))) ≡ false
    stays k = no-ending (nat_lt k (commands t)) (is_fresh (next t (In n (Update j batch rc))))

    go : (b : Bool) → updates j (next t (In n (Update j batch rc))) ≡ b → after_some (logs t) (item_if b (Lines j batch)) ≡ logs (t ++ In n (Update j batch rc) ∷ [])
    go false h = same-logs t (In n (Update j batch rc)) same (λ k l. logs_of-same t (In n (Update j batch rc)) k (λ name. unproductive t (In n (Update j batch rc)) k name (ap (λ b. item_if b (Lines j batch)) h)) (λ _. stays k))
    go true h =
        let runs : is_open t j ≡ true = and-right (is_fresh (next t (In n (Update j batch rc))) && (j == j)) (is_open t j) h in
        let inside : j < commands t = open-is-started t j runs in
        let none : ending t j ≡ None = none-when (ending t j) (sym (open-when t j inside) ∙ runs) in
        let ls : blocks (t ++ In n (Update j batch rc) ∷ []) j ≡ more_blocks (blocks t j) batch = fun_ext (λ name. blocks-push t (In n (Update j batch rc)) j name ∙ ap (λ b. blocks t j name ++ cond b (blocks_under name batch) []) h) in
        let end : outcome (t ++ In n (Update j batch rc) ∷ []) j ≡ None = ended-push t (In n (Update j batch rc)) j ∙ ap (λ o. option_map (result_at j) (option_or o (cond (ends_at j (next t (In n (Update j batch rc)))) (Some (next t (In n (Update j batch rc)))) None))) none ∙ ap (λ b. option_map (result_at j) (cond b (Some (next t (In n (Update j batch rc)))) None)) (stays j) in
        let new : logs_of (t ++ In n (Update j batch rc) ∷ []) j ≡ record { blocks = more_blocks (blocks t j) batch; ended = None } = ap (λ l. record { blocks = l; ended = outcome (t ++ In n (Update j batch rc) ∷ []) j }) ls ∙ ap (λ r. record { blocks = more_blocks (blocks t j) batch; ended = r }) end in
        change-below j (commands t) (with_batch batch) (logs_of t) (logs_of (t ++ In n (Update j batch rc) ∷ [])) inside (new ∙ sym (with_batch-open t j batch none))
        (λ k l ne. logs_of-same t (In n (Update j batch rc)) k (other k ne) (λ _. stays k))
        ∙ ap (λ c. map (logs_of (t ++ In n (Update j batch rc) ∷ [])) (below c)) (sym same)
      where
        other : (k : ℕ) → (k ≡ j → ⊥) → (name : Name) → added t k name (In n (Update j batch rc)) ≡ []
        other k ne name =
            let differs : (j == k) ≡ false = grind (arith, nat_tests) in
            ap (λ b. cond (is_fresh (next t (In n (Update j batch rc))) && b && is_open t k) (blocks_under name batch) []) differs ∙ ap (λ b. cond (b && is_open t k) (blocks_under name batch) []) (and-false (is_fresh (next t (In n (Update j batch rc)))))

-- an event that ends one open command at most

step-End : (t : Trace) (e : Event) → commands (t ++ e ∷ []) ≡ commands t → ((k : ℕ) (name : Name) → added t k name e ≡ [])
    → ((i j : ℕ) → is_open t i ≡ true → is_open t j ≡ true → ends_at i (next t e) ≡ true → ends_at j (next t e) ≡ true → i ≡ j)
    → after_some (logs t) (option_map (λ k. End k (result_at k (next t e))) (ended_by t e)) ≡ logs (t ++ e ∷ [])
step-End t e same none one = go (ended_by t e) refl
  where
    q : ℕ → Bool
    q k = is_open t k && ends_at k (next t e)

    go : (o : Option ℕ) → ended_by t e ≡ o → after_some (logs t) (option_map (λ k. End k (result_at k (next t e))) o) ≡ logs (t ++ e ∷ [])
    go None f = same-logs t e same (λ k l. logs_of-same t e k (none k) (λ n. stays k l n))
      where
        stays : (k : ℕ) → k < commands t → is_none (ending t k) ≡ true → ends_at k (next t e) ≡ false
        stays k l n =
            let no : (is_open t k && ends_at k (next t e)) ≡ false = find-none (λ k. is_open t k && ends_at k (next t e)) (commands t) (sym (find-filter (λ k. ends_at k (next t e)) (is_open t) (below (commands t))) ∙ f) k l in
            sym (ap (λ b. b && ends_at k (next t e)) (open-when t k l ∙ n)) ∙ no
    go (Some j) f =
        let both : (is_open t j && ends_at j (next t e)) ≡ true = find-passes (λ k. is_open t k && ends_at k (next t e)) (below (commands t)) j (sym (find-filter (λ k. ends_at k (next t e)) (is_open t) (below (commands t))) ∙ f) in
        let runs : is_open t j ≡ true = and-left (is_open t j) (ends_at j (next t e)) both in
        let ends : ends_at j (next t e) ≡ true = and-right (is_open t j) (ends_at j (next t e)) both in
        let inside : j < commands t = open-is-started t j runs in
        let gone : ending t j ≡ None = none-when (ending t j) (sym (open-when t j inside) ∙ runs) in
        change-below j (commands t) (with_end (result_at j (next t e))) (logs_of t) (logs_of (t ++ e ∷ [])) inside (logs_of-ended t e j (none j) gone ends)
        (λ k l ne. logs_of-same t e k (none k) (λ n. stays j runs ends k l ne n (ends_at k (next t e)) refl))
        ∙ ap (λ c. map (logs_of (t ++ e ∷ [])) (below c)) (sym same)
      where
        stays : (j : ℕ) → is_open t j ≡ true → ends_at j (next t e) ≡ true → (k : ℕ) → k < commands t → (k ≡ j → ⊥) → is_none (ending t k) ≡ true → (b : Bool) → ends_at k (next t e) ≡ b → b ≡ false
        stays j runs ends k l ne n false g = refl
        stays j runs ends k l ne n true g = absurd (ne (one k j (open-when t k l ∙ n) runs g ends))

never : (a f : Bool) → (a && ((f && false) || false)) ≡ true → ⊥
never true true h = cc
never true false h = cc
never false f h = cc

-- which command it is
complete-is : (a f q : Bool) → (a && ((f && q) || false)) ≡ true → q ≡ true
complete-is true true true h = refl
complete-is true true false h = cc
complete-is true false q h = cc
complete-is false f q h = cc

one-Complete : (t : Trace) (n c : ℕ) (fault : Bool) (i j : ℕ) → ends_at i (next t (In n (Complete c fault))) ≡ true → ends_at j (next t (In n (Complete c fault))) ≡ true → i ≡ j
one-Complete t n c fault i j h g =
    let a : (c == i) ≡ true = complete-is (nat_lt i (commands t)) (is_fresh (next t (In n (Complete c fault)))) (c == i) h in
    let b : (c == j) ≡ true = complete-is (nat_lt j (commands t)) (is_fresh (next t (In n (Complete c fault)))) (c == j) g in
    sym (eqb-true c i a) ∙ eqb-true c j b

step-In : (t : Trace) (n : ℕ) (body : Body) → IsSound t → after_some (logs t) (item t (In n body)) ≡ logs (t ++ In n body ∷ [])
step-In t n (Update j batch rc) s = step-Update t n j batch rc
step-In t n (Complete c fault) s =
    step-End t (In n (Complete c fault)) (commands-push t (In n (Complete c fault)) ∙ omega arith) (λ k name. same-arms (updates k (next t (In n (Complete c fault)))) [])
    (λ i j hi hj ei ej. one-Complete t n c fault i j ei ej)
step-In t n (Answered true) s =
    step-End t (In n (Answered true)) (commands-push t (In n (Answered true)) ∙ omega arith) (λ k name. refl)
    (λ i j hi hj ei ej. s.apart i j n hi hj (and-right (nat_lt i (commands t)) (was_order t i n) ei) (and-right (nat_lt j (commands t)) (was_order t j n) ej))
step-In t n (Answered false) s =
    step-End t (In n (Answered false)) (commands-push t (In n (Answered false)) ∙ omega arith) (λ k name. refl)
    (λ i j hi hj ei ej. absurd (never (nat_lt i (commands t)) false ei))
step-In t n Auth s =
    step-End t (In n Auth) (commands-push t (In n Auth) ∙ omega arith) (λ k name. same-arms (updates k (next t (In n Auth))) [])
    (λ i j hi hj ei ej. absurd (never (nat_lt i (commands t)) (is_fresh (next t (In n Auth))) ei))
step-In t n BadArgs s =
    step-End t (In n BadArgs) (commands-push t (In n BadArgs) ∙ omega arith) (λ k name. same-arms (updates k (next t (In n BadArgs))) [])
    (λ i j hi hj ei ej. absurd (never (nat_lt i (commands t)) (is_fresh (next t (In n BadArgs))) ei))
step-In t n NoSuchOp s =
    step-End t (In n NoSuchOp) (commands-push t (In n NoSuchOp) ∙ omega arith) (λ k name. same-arms (updates k (next t (In n NoSuchOp))) [])
    (λ i j hi hj ei ej. absurd (never (nat_lt i (commands t)) (is_fresh (next t (In n NoSuchOp))) ei))

step-any : (t : Trace) (e : Event) → IsSound t → after_some (logs t) (item t e) ≡ logs (t ++ e ∷ [])
step-any t Up s = same-logs t Up (commands-push t Up ∙ omega arith) (λ k l. logs_of-same t Up k (λ name. refl) (λ n. (ends-no t k).0))
step-any t Cut s = same-logs t Cut (commands-push t Cut ∙ omega arith) (λ k l. logs_of-same t Cut k (λ name. refl) (λ n. (ends-no t k).3))
step-any t Go s = step-Go t
step-any t (Stop j) s = same-logs t (Stop j) (commands-push t (Stop j) ∙ omega arith) (λ k l. logs_of-same t (Stop j) k (λ name. refl) (λ n. (ends-no t k).2 j))
step-any t Down s = step-Down t
step-any t (In n body) s = step-In t n body s

-- the law: the book of all items has the logs and ends of the trace
pub books_have_the_logs : BooksHaveTheLogs
books_have_the_logs = snoc_induction (λ t. was_taken t ≡ true → book (items t) ≡ logs t) (λ h. refl) step
  where
    step : (t : Trace) (e : Event) → (was_taken t ≡ true → book (items t) ≡ logs t) → was_taken (t ++ e ∷ []) ≡ true → book (items (t ++ e ∷ [])) ≡ logs (t ++ e ∷ [])
    step t e ih h =
        let before : was_taken t ≡ true = and-left (was_taken t) (is_none (refusal t e)) (sym (was_taken-push t e) ∙ h) in
        book-push t e ∙ ap (λ b. after_some b (item t e)) (ih before) ∙ step-any t e (sound t before)

items-more : (u v : Trace) → IsPrefix (items u) (items (u ++ v))
items-more u [] = rw append-nil (IsPrefix-refl (items u))
items-more u (e ∷ v) =
    let rest : IsPrefix (items (u ++ e ∷ [])) (items ((u ++ e ∷ []) ++ v)) = items-more (u ++ e ∷ []) v in
    let same : (u ++ e ∷ []) ++ v ≡ u ++ (e ∷ v) = append_assoc u (e ∷ []) v in
    let one : List Item = cons_option (item u e) [] in
    (one ++ rest.0, sym (append_assoc (items u) one rest.0) ∙ ap (λ l. l ++ rest.0) (sym (items-push u e)) ∙ rest.1 ∙ ap items same)

pub items-visible : (t : Trace) (d : ℕ) → d ≤ productive t → items (visible t d) ≡ take d (items t)
items-visible t d h =
    let p : IsPrefix (visible t d) t = visible-is-prefix t d h in
    let q : IsPrefix (items (visible t d)) (items (visible t d ++ p.0)) = items-more (visible t d) p.0 in
    sym (take_at (items (visible t d)) q.0 d (productive-visible t d h)) ∙ ap (take d) (q.1 ∙ ap items p.1)

-- the law: that of the first items has those of what viewers see
pub visible_books_have_the_logs : VisibleBooksHaveTheLogs
visible_books_have_the_logs t d h l =
    let p : IsPrefix (visible t d) t = visible-is-prefix t d l in
    ap book (sym (items-visible t d l)) ∙ books_have_the_logs (visible t d) (front-taken (visible t d) p.0 (ap was_taken p.1 ∙ h))

-- What the table of a trace says of it.
use Rattle.std.proofs.Common.{◌≡◌, refl, sym, ◌∙◌, ap, ℕ, zero, suc, ◌+◌, ◌<◌, ◌≤◌, Bool, true, false, cond, ◌&&◌, List, [], ◌∷◌, length, take, drop, get_or, Option, Some, None, arith, inl, inr}
use Rattle.std.specs.Prelude.{◌==◌, ◌⊎◌, nat_lt, is_none, is_some, option_map}
use Rattle.std.specs.List.{find, filter}
use Rattle.std.specs.Option.{option_or}
use Rattle.std.proofs.lemmas.Bool.{cases_lt}
use Rattle.std.proofs.lemmas.Bool.Decides.{nat_tests}
use Rattle.std.proofs.lemmas.List.{take_more, take-append-drop}
use Rattle.std.proofs.lemmas.List.Folds.{find-append}
use Rattle.bm_session.proofs.Snoc.{find-push, filter-push, and-false, and-true}
use Rattle.bm_session.proofs.Taken.{not-started, IsNothing}
use Rattle.bm_session.proofs.Listed.{find-map}
use Rattle.bm_session.specs.declared.open.Open.{Open}
use Rattle.bm_session.specs.declared.table.Table.{Table}
use Rattle.bm_session.specs.Trace.{Trace, below, commands, ending, is_open, open_commands, outcome}
use Rattle.bm_session.specs.Table.{IsTable, open_entry}

-- A search that ends at the first that passes

pub find_more : {X : Type 0} (p : X → Bool) (xs : List X) (i : ℕ) (d : X) → i < length xs → p (get_or xs i d) ≡ false → find p (take i xs) ≡ None → find p (take (i + 1) xs) ≡ None
find_more p xs i d l fails none =
    ap (find p) (take_more xs i d l)
    ∙ find-push p (take i xs) (get_or xs i d)
    ∙ ap (λ o. option_or o (cond (p (get_or xs i d)) (Some (get_or xs i d)) None)) none
    ∙ ap (λ b. cond b (Some (get_or xs i d)) None) fails

pub find_here : {X : Type 0} (p : X → Bool) (xs : List X) (i : ℕ) (d : X) → i < length xs → p (get_or xs i d) ≡ true → find p (take i xs) ≡ None → Some (get_or xs i d) ≡ find p xs
find_here p xs i d l passes none =
    sym (ap (find p) (sym (take-append-drop (i + 1) xs))
    ∙ find-append p (take (i + 1) xs) (drop (i + 1) xs)
    ∙ ap (λ o. option_or o (find p (drop (i + 1) xs)))
    (ap (find p) (take_more xs i d l)
    ∙ find-push p (take i xs) (get_or xs i d)
    ∙ ap (λ o. option_or o (cond (p (get_or xs i d)) (Some (get_or xs i d)) None)) none
    ∙ ap (λ b. cond b (Some (get_or xs i d)) None) passes))

-- An open command by its number

find-below : (p : ℕ → Bool) (k n : ℕ) → find (λ j. k == j) (filter p (below n)) ≡ cond (nat_lt k n && p k) (Some k) None
find-below p k zero = let no : nat_lt k 0 ≡ false = grind (arith, nat_tests) in ap (λ b. cond (b && p k) (Some k) None) (sym no)
find-below p k (suc n) =
    ap (find (λ j. k == j)) (filter-push p (below n) n)
    ∙ find-append (λ j. k == j) (filter p (below n)) (cond (p n) (n ∷ []) [])
    ∙ ap (λ o. option_or o (find (λ j. k == j) (cond (p n) (n ∷ []) []))) (find-below p k n)
    ∙ go (cases_lt k n)
  where
    pick : (b : Bool) → find (λ j. k == j) (cond b (n ∷ []) []) ≡ cond (b && (k == n)) (Some n) None
    pick true = refl
    pick false = refl

    settled : (b : Bool) (o : Option ℕ) → b ≡ false → option_or (cond true (Some k) None) o ≡ Some k
    settled b o e = refl

    go : (k < n) ⊎ (n ≤ k) → option_or (cond (nat_lt k n && p k) (Some k) None) (find (λ j. k == j) (cond (p n) (n ∷ []) [])) ≡ cond (nat_lt k (suc n) && p k) (Some k) None
    go (inl l) =
        let in_old : nat_lt k n ≡ true = grind (arith, nat_tests) in
        let in_new : nat_lt k (suc n) ≡ true = grind (arith, nat_tests) in
        let other : (k == n) ≡ false = grind (arith, nat_tests) in
        ap (λ b. option_or (cond (b && p k) (Some k) None) (find (λ j. k == j) (cond (p n) (n ∷ []) []))) in_old
        ∙ ap (λ o. option_or (cond (p k) (Some k) None) o) (pick (p n) ∙ ap (λ b. cond (p n && b) (Some n) None) other ∙ ap (λ b. cond b (Some n) None) (and-false (p n)))
        ∙ last (p k)
        ∙ ap (λ b. cond (b && p k) (Some k) None) (sym in_new)
      where
        last : (b : Bool) → option_or (cond b (Some k) None) None ≡ cond b (Some k) None
        last true = refl
        last false = refl
    go (inr l) =
        let out_old : nat_lt k n ≡ false = grind (arith, nat_tests) in
        ap (λ b. option_or (cond (b && p k) (Some k) None) (find (λ j. k == j) (cond (p n) (n ∷ []) []))) out_old
        ∙ pick (p n)
        ∙ at (k == n) refl
      where
        at : (b : Bool) → (k == n) ≡ b → cond (p n && (k == n)) (Some n) None ≡ cond (nat_lt k (suc n) && p k) (Some k) None
        at true e =
            let same : k ≡ n = grind (arith, nat_tests) in
            let inside : nat_lt k (suc n) ≡ true = grind (arith, nat_tests) in
            ap (λ b. cond (p n && b) (Some n) None) e
            ∙ ap (λ b. cond b (Some n) None) (and-true (p n))
            ∙ ap (λ x. cond (p x) (Some x) None) (sym same)
            ∙ ap (λ b. cond (b && p k) (Some k) None) (sym inside)
        at false e =
            let above : n < k = grind (arith, nat_tests) in
            let outside : nat_lt k (suc n) ≡ false = grind (arith, nat_tests) in
            ap (λ b. cond (p n && b) (Some n) None) e
            ∙ ap (λ b. cond b (Some n) None) (and-false (p n))
            ∙ ap (λ b. cond (b && p k) (Some k) None) (sym outside)

pub find-open : (t : Trace) (k : ℕ) → find (λ j. k == j) (open_commands t) ≡ cond (is_open t k) (Some k) None
find-open t k = find-below (is_open t) k (commands t) ∙ ap (λ b. cond b (Some k) None) (go (nat_lt k (commands t)))
  where
    go : (b : Bool) → (b && (b && is_none (ending t k))) ≡ (b && is_none (ending t k))
    go true = refl
    go false = refl

-- the entry of a command, if it is open
pub find-command : (tb : Table) (t : Trace) (k : ℕ) → IsTable tb t → find (λ (o : Open). k == o.command) tb.opened.items ≡ cond (is_open t k) (Some (open_entry t k)) None
find-command tb t k is =
    ap (find (λ (o : Open). k == o.command)) is.listed
    ∙ find-map (open_entry t) (λ (o : Open). k == o.command) (open_commands t)
    ∙ ap (option_map (open_entry t)) (find-open t k)
    ∙ go (is_open t k)
  where
    go : (b : Bool) → option_map (open_entry t) (cond b (Some k) None) ≡ cond b (Some (open_entry t k)) None
    go true = refl
    go false = refl

pub is_open-table : (tb : Table) (t : Trace) (k : ℕ) → IsTable tb t → is_some (find (λ (o : Open). k == o.command) tb.opened.items) ≡ is_open t k
is_open-table tb t k is = ap (λ o. is_some o) (find-command tb t k is) ∙ go (is_open t k)
  where
    go : (b : Bool) → is_some (cond b (Some (open_entry t k)) None) ≡ b
    go true = refl
    go false = refl

-- a command that wasn't started did not end
pub outcome-none : (t : Trace) (k : ℕ) → commands t ≤ k → outcome t k ≡ None
outcome-none t k l = let nothing : IsNothing t k = not-started t k l in rw nothing.no_end refl

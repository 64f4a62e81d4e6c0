-- First places in a list that grows at its end.
use Rattle.std.proofs.Common.{◌≡◌, refl, sym, ◌∙◌, ap, ℕ, ◌+◌, ◌≤◌, ◌<◌, Bool, true, false, cond, not, List, [], ◌∷◌, ◌++◌, length, map, Option, Some, None, nat_eq, nat_lt, arith}
use Rattle.std.specs.Prelude.{bytes_eq, position}
use Rattle.std.specs.List.{position_or_len}
use Rattle.std.specs.Option.{option_or, is_some}
use Rattle.std.specs.Map.{update}
use Rattle.std.proofs.lemmas.Bool.Decides.{nat_tests}
use Rattle.std.proofs.lemmas.List.{length_push, length-map}
use Rattle.std.proofs.lemmas.List.Folds.{position_or_len_push}
use Rattle.std.proofs.lemmas.List.Sums.{prefix_len-le-length}
use Rattle.bm_lines.specs.Names.{Name}
use Rattle.bm_lines.specs.Places.{HasPlaces, place_in, first_place}
use Rattle.bm_lines.specs.declared.name_table.NameTable.{NameTable}
use Rattle.bm_lines.proofs.PartLists.{same_name}

-- ---- places in any list

pub position-found : {A : Type 0} (p : A → Bool) (xs : List A) (i : ℕ) → position p xs ≡ Some i → (i ≡ position_or_len p xs) × (i < length xs)
position-found p xs i h = go (nat_lt (position_or_len p xs) (length xs)) refl h
  where
    go : (b : Bool) → nat_lt (position_or_len p xs) (length xs) ≡ b → cond b (Some (position_or_len p xs)) None ≡ Some i → (i ≡ position_or_len p xs) × (i < length xs)
    go true e g =
        let same : i ≡ position_or_len p xs = cc in
        let inside : position_or_len p xs < length xs = grind (arith, nat_tests) in
        (same, omega arith)
    go false e g = cc

pub position-missing : {A : Type 0} (p : A → Bool) (xs : List A) → position p xs ≡ None → length xs ≤ position_or_len p xs
position-missing p xs h = go (nat_lt (position_or_len p xs) (length xs)) refl h
  where
    go : (b : Bool) → nat_lt (position_or_len p xs) (length xs) ≡ b → cond b (Some (position_or_len p xs)) None ≡ None → length xs ≤ position_or_len p xs
    go true e g = cc
    go false e g = grind (arith, nat_tests)

position_or_len-map : {A B : Type 0} (p : B → Bool) (f : A → B) (xs : List A) → position_or_len p (map f xs) ≡ position_or_len (λ x. p (f x)) xs
position_or_len-map p f [] = refl
position_or_len-map p f (x ∷ xs) = ap (λ n. cond (not (p (f x))) (1 + n) 0) (position_or_len-map p f xs)

pub position-map : {A B : Type 0} (p : B → Bool) (f : A → B) (xs : List A) → position p (map f xs) ≡ position (λ x. p (f x)) xs
position-map p f xs =
    ap (λ n. cond (nat_lt n (length (map f xs))) (Some n) None) (position_or_len-map p f xs)
    ∙ ap (λ n. cond (nat_lt (position_or_len (λ x. p (f x)) xs) n) (Some (position_or_len (λ x. p (f x)) xs)) None) (length-map xs f)

-- one element more
grown : (at size new_at new_size : ℕ) (c : Bool) → at ≤ size → new_size ≡ size + 1 → new_at ≡ cond (nat_eq at size) (size + cond c 0 1) at
    → cond (nat_lt new_at new_size) (Some new_at) None ≡ option_or (cond (nat_lt at size) (Some at) None) (cond c (Some size) None)
grown at size new_at new_size c inside more is = go (nat_lt at size) refl c is
  where
    chosen : (b : Bool) → nat_lt new_at new_size ≡ b → cond (nat_lt new_at new_size) (Some new_at) None ≡ cond b (Some new_at) None
    chosen b e = ap (λ d. cond d (Some new_at) None) e

    go : (b : Bool) → nat_lt at size ≡ b → (c : Bool) → new_at ≡ cond (nat_eq at size) (size + cond c 0 1) at
        → cond (nat_lt new_at new_size) (Some new_at) None ≡ option_or (cond b (Some at) None) (cond c (Some size) None)
    go true e c is =
        let apart : nat_eq at size ≡ false = grind (arith, nat_tests) in
        let same : new_at ≡ at = is ∙ ap (λ d. cond d (size + cond c 0 1) at) apart in
        let below : nat_lt new_at new_size ≡ true = grind (arith, nat_tests) in
        chosen true below ∙ ap Some same
    go false e true is =
        let equal : nat_eq at size ≡ true = grind (arith, nat_tests) in
        let same : new_at ≡ size = is ∙ ap (λ d. cond d (size + 0) at) equal ∙ omega arith in
        let below : nat_lt new_at new_size ≡ true = grind (arith, nat_tests) in
        chosen true below ∙ ap Some same
    go false e false is =
        let equal : nat_eq at size ≡ true = grind (arith, nat_tests) in
        let same : new_at ≡ size + 1 = is ∙ ap (λ d. cond d (size + 1) at) equal in
        let past : nat_lt new_at new_size ≡ false = grind (arith, nat_tests) in
        chosen false past

pub position-push : {A : Type 0} (p : A → Bool) (xs : List A) (y : A) → position p (xs ++ y ∷ []) ≡ option_or (position p xs) (cond (p y) (Some (length xs)) None)
position-push p xs y = grown (position_or_len p xs) (length xs) _ _ (p y) (prefix_len-le-length (λ x. not (p x)) xs) (length_push xs y) (position_or_len_push p xs y)

-- ---- tables

or_none : {A : Type 0} (o : Option A) → option_or o None ≡ o
or_none None = refl
or_none (Some x) = refl

-- a name that wasn't there takes the next place
pub has_places-added : (old new : NameTable) (names : List Name) (name : Name) (place : ℕ) → place ≡ length names → HasPlaces old names → place_in old name ≡ None
    → ((other : Name) → place_in new other ≡ update bytes_eq (place_in old) name (Some place) other) → HasPlaces new (names ++ name ∷ [])
has_places-added old new names name place at has absent set other = set other ∙ go (bytes_eq name other) refl ∙ sym (position-push (λ n. bytes_eq n other) names name)
  where
    go : (b : Bool) → bytes_eq name other ≡ b → cond b (Some place) (place_in old other) ≡ option_or (first_place other names) (cond b (Some (length names)) None)
    go true e =
        let none : first_place other names ≡ None = ap (λ n. first_place n names) (sym (same_name name other e)) ∙ sym (has name) ∙ absent in
        ap Some at ∙ ap (λ o. option_or o (Some (length names))) (sym none)
    go false e = has other ∙ sym (or_none (first_place other names))

-- one that was there keeps its place
pub has_places-again : (table : NameTable) (names : List Name) (name : Name) (i : ℕ) → HasPlaces table names → place_in table name ≡ Some i → HasPlaces table (names ++ name ∷ [])
has_places-again table names name i has there other = has other ∙ go (bytes_eq name other) refl ∙ sym (position-push (λ n. bytes_eq n other) names name)
  where
    go : (b : Bool) → bytes_eq name other ≡ b → first_place other names ≡ option_or (first_place other names) (cond b (Some (length names)) None)
    go true e =
        let some : first_place other names ≡ Some i = ap (λ n. first_place n names) (sym (same_name name other e)) ∙ sym (has name) ∙ there in
        some ∙ ap (λ o. option_or o (Some (length names))) (sym some)
    go false e = sym (or_none (first_place other names))

pub none_there : {A : Type 0} (o : Option A) → is_some o ≡ false → o ≡ None
none_there None h = refl
none_there (Some x) h = absurd cc

pub some_there : {A : Type 0} (o : Option A) → is_some o ≡ true → (x : A) × (o ≡ Some x)
some_there None h = absurd cc
some_there (Some x) h = (x, refl)

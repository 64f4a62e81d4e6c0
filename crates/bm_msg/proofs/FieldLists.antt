-- The fields of items, one item after another.
use Rattle.std.proofs.Common.{◌≡◌, refl, sym, ◌∙◌, ap, subst, ℕ, ◌+◌, ◌<◌, ◌≤◌, List, [], ◌∷◌, ◌++◌, length, get_or, drop, map, IsSome, Result, Ok, Err, OnErr, Bool, true, false, Option, Some, None, append_assoc, append-nil, arith}
use Rattle.std.specs.Option.{option_map, option_and_then, is_none}
use Rattle.std.proofs.lemmas.List.{drop_more, drop_all}
use Rattle.bm_value.specs.declared.value.Value.{Value}
use Rattle.bm_value.specs.Tree.{Tree, none, item}
use Rattle.bm_value.specs.View.{tree, trees_of}
use Rattle.bm_msg.specs.declared.field.Field.{Field}
use Rattle.bm_msg.specs.Items.{item_fields, fields_of}

-- fields, and then those of the items that are left
abbrev pub with_rest : {A : Type 0} → List Field → List (Value A) → Option (List Field)
with_rest found xs = option_map (λ back. found ++ back) (fields_of (trees_of (map tree xs)))

option_map-append : (old front : List Field) (o : Option (List Field)) → option_map (λ back. old ++ back) (option_map (λ back. front ++ back) o) ≡ option_map (λ back. (old ++ front) ++ back) o
option_map-append old front (Some back) = ap (λ fs. Some fs) (sym (append_assoc old front back))
option_map-append old front None = refl

pub with_rest-none : {A : Type 0} (xs : List (Value A)) → fields_of (trees_of (map tree xs)) ≡ with_rest [] xs
with_rest-none xs = go (fields_of (trees_of (map tree xs)))
  where
    go : (o : Option (List Field)) → o ≡ option_map (λ back. [] ++ back) o
    go (Some back) = refl
    go None = refl

split_at : {A : Type 0} (xs : List (Value A)) (i : ℕ) (x : Value A) → i < length xs → x ≡ get_or xs i x → drop i xs ≡ x ∷ drop (i + 1) xs
split_at xs i x h is = drop_more xs i x h ∙ ap (λ y. y ∷ drop (i + 1) xs) (sym is)

pub none_is : (o : Option (List Field)) → is_none o ≡ true → None ≡ o
none_is None h = refl
none_is (Some fs) h = absurd cc

pub some_is : (o : Option (List Field)) → is_none o ≡ false → IsSome o
some_is None h = absurd cc
some_is (Some fs) h = refl

pub told_where : {T E : Type 0} (r : Result T E) (P : Type 0) → P → OnErr r P
told_where (Ok x) P p = tt
told_where (Err e) P p = p

-- whether one of the items is of another kind
pub wrong_here : {A : Type 0} (all : Bool) (xs : List (Value A)) (i : ℕ) (x : Value A) → i < length xs → x ≡ get_or xs i x
    → is_none (item_fields (tree x)) ≡ true → all ≡ is_none (fields_of (trees_of (map tree (drop i xs)))) → true ≡ all
wrong_here all xs i x h is wrong so_far = sym (so_far ∙ ap (λ ys. is_none (fields_of (trees_of (map tree ys)))) (split_at xs i x h is) ∙ go (item_fields (tree x)) wrong)
  where
    go : (o : Option (List Field)) → is_none o ≡ true → is_none (option_and_then (λ f. option_map (λ back. f ++ back) (fields_of (trees_of (map tree (drop (i + 1) xs))))) o) ≡ true
    go None e = refl
    go (Some f) e = absurd cc

pub wrong_behind : {A : Type 0} (all : Bool) (xs : List (Value A)) (i : ℕ) (x : Value A) → i < length xs → x ≡ get_or xs i x
    → is_none (item_fields (tree x)) ≡ false → all ≡ is_none (fields_of (trees_of (map tree (drop i xs)))) → all ≡ is_none (fields_of (trees_of (map tree (drop (i + 1) xs))))
wrong_behind all xs i x h is right so_far = so_far ∙ ap (λ ys. is_none (fields_of (trees_of (map tree ys)))) (split_at xs i x h is) ∙ go (item_fields (tree x)) (fields_of (trees_of (map tree (drop (i + 1) xs)))) right
  where
    go : (o p : Option (List Field)) → is_none o ≡ false → is_none (option_and_then (λ f. option_map (λ back. f ++ back) p) o) ≡ is_none p
    go None p e = absurd cc
    go (Some f) None e = refl
    go (Some f) (Some g) e = refl

-- where all of the items are of their kinds, each is
pub some_here : {A : Type 0} (all : Option (List Field)) (old : List Field) (xs : List (Value A)) (i : ℕ) (x : Value A) → i < length xs → x ≡ get_or xs i x
    → IsSome all → all ≡ with_rest old (drop i xs) → IsSome (item_fields (tree x))
some_here all old xs i x h is some so_far =
    go (item_fields (tree x)) (fields_of (trees_of (map tree (drop (i + 1) xs)))) (subst IsSome (so_far ∙ ap (with_rest old) (split_at xs i x h is)) some)
  where
    go : (o p : Option (List Field)) → IsSome (option_map (λ back. old ++ back) (option_and_then (λ f. option_map (λ back. f ++ back) p) o)) → IsSome o
    go None p e = absurd cc
    go (Some f) p e = refl

-- an item that carries these fields
pub with_rest-more : {A : Type 0} (all : Option (List Field)) (old front : List Field) (xs : List (Value A)) (i : ℕ) (x : Value A) → i < length xs → x ≡ get_or xs i x
    → item_fields (tree x) ≡ Some front → all ≡ with_rest old (drop i xs) → all ≡ with_rest (old ++ front) (drop (i + 1) xs)
with_rest-more all old front xs i x h is carries so_far =
    so_far ∙ ap (with_rest old) (split_at xs i x h is)
    ∙ ap (λ o. option_map (λ back. old ++ back) (option_and_then (λ f. option_map (λ back. f ++ back) (fields_of (trees_of (map tree (drop (i + 1) xs))))) o)) carries
    ∙ option_map-append old front (fields_of (trees_of (map tree (drop (i + 1) xs))))

-- an item of another kind
pub with_rest-wrong : {A : Type 0} (all : Option (List Field)) (old : List Field) (xs : List (Value A)) (i : ℕ) (x : Value A) → i < length xs → x ≡ get_or xs i x
    → item_fields (tree x) ≡ None → all ≡ with_rest old (drop i xs) → None ≡ all
with_rest-wrong all old xs i x h is wrong so_far =
    sym (so_far ∙ ap (with_rest old) (split_at xs i x h is)
    ∙ ap (λ o. option_map (λ back. old ++ back) (option_and_then (λ f. option_map (λ back. f ++ back) (fields_of (trees_of (map tree (drop (i + 1) xs))))) o)) wrong)

pub with_rest-end : {A : Type 0} (all : Option (List Field)) (found : List Field) (xs : List (Value A)) (i : ℕ) → length xs ≤ i → all ≡ with_rest found (drop i xs) → Some found ≡ all
with_rest-end all found xs i past so_far = sym (so_far ∙ ap (with_rest found) (drop_all i xs past) ∙ ap (λ fs. Some fs) (append-nil found))

-- an only item
one_item : (t : Tree) → fields_of (item t none) ≡ item_fields t
one_item t = go (item_fields t)
  where
    go : (o : Option (List Field)) → option_and_then (λ front. option_map (λ back. front ++ back) (Some [])) o ≡ o
    go (Some front) = ap (λ fs. Some fs) (append-nil front)
    go None = refl

pub fields_of-one : {A : Type 0} (xs : List (Value A)) (x : Value A) → length xs ≡ 1 → x ≡ get_or xs 0 x → item_fields (tree x) ≡ fields_of (trees_of (map tree xs))
fields_of-one [] x h p = absurd (omega arith)
fields_of-one (a ∷ []) x h p = ap (λ z. item_fields (tree z)) p ∙ sym (one_item (tree a))
fields_of-one (a ∷ (b ∷ more)) x h p = absurd (omega arith)

-- no other number of items is an only item
pub not_alone : {A : Type 0} (xs : List (Value A)) → (length xs ≡ 1 → ⊥) → (only : Tree) → ¬ (trees_of (map tree xs) ≡ item only none)
not_alone [] h only e = absurd cc
not_alone (a ∷ []) h only e = h refl
not_alone (a ∷ (b ∷ more)) h only e = absurd cc

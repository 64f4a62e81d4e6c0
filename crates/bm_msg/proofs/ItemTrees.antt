-- Items of an update as trees.
use Rattle.std.proofs.Common.{◌≡◌, ◌≢◌, refl, sym, ◌∙◌, ap, ◌<◌, ◌≤◌, List, [], ◌∷◌, length, get_or, drop, map, Some, None, arith}
use Rattle.std.specs.Prelude.{slice_get}
use Rattle.bm_value.specs.declared.value.Value.{Value, Array}
use Rattle.bm_value.specs.declared.value.Items.{Items}
use Rattle.bm_value.specs.Tree.{Tree, nil, bool, int, bits32, bits64, str, bin, array, dict, ext, Trees, none, item}
use Rattle.bm_value.specs.View.{tree, trees_of, values_in}
use Rattle.bm_value.proofs.Values.{tree-Array}
use Rattle.bm_value.proofs.Written.{items_out}
use Rattle.bm_msg.specs.Items.{text_of, named, item_fields}
use Rattle.bm_msg.specs.Reading.{str_of, log_item, item_parts}

-- an array is the trees of its values
pub array_is : {A : Type 0} (v : Value A) (x : Items A) → v ≡ Array x → tree v ≡ array (trees_of (map tree (values_in x)))
array_is v x is = ap tree is ∙ tree-Array x ∙ ap array (items_out x)

pub text_of-first : (t : Tree) (ts : Trees) → text_of (array (item t ts)) ≡ str_of t
text_of-first (str s) ts = refl
text_of-first t ts = refl

-- the name of a log and its text
pub named-two : (n v : Tree) (more : Trees)
    → named (array (item n (item v more))) ≡ log_item n v
named-two (str s) v more = refl
named-two n v more = refl

named-one : (n : Tree) → named (array (item n none)) ≡ None
named-one (str s) = refl
named-one n = refl

pub named-short : {A : Type 0} (xs : List (Value A)) → length xs < 2 → named (array (trees_of (map tree xs))) ≡ None
named-short [] h = refl
named-short (x ∷ []) h = named-one (tree x)
named-short (x ∷ (y ∷ ys)) h = absurd (omega arith)

-- a name and a value
pub item_fields-two : (n v : Tree) → item_fields (array (item n (item v none))) ≡ item_parts n v
item_fields-two (str s) v = refl
item_fields-two n v = refl

item_fields-one : (n : Tree) → item_fields (array (item n none)) ≡ None
item_fields-one (str s) = refl
item_fields-one n = refl

item_fields-more : (n v w : Tree) (ts : Trees) → item_fields (array (item n (item v (item w ts)))) ≡ None
item_fields-more (str s) v w ts = refl
item_fields-more n v w ts = refl

pub item_fields-other : {A : Type 0} (xs : List (Value A)) → length xs ≢ 2 → item_fields (array (trees_of (map tree xs))) ≡ None
item_fields-other [] h = refl
item_fields-other (x ∷ []) h = item_fields-one (tree x)
item_fields-other (x ∷ (y ∷ [])) h = absurd (h refl)
item_fields-other (x ∷ (y ∷ (z ∷ zs))) h = item_fields-more (tree x) (tree y) (tree z) (trees_of (map tree zs))

-- ---- lists by their first elements

pub first_is : {A : Type 0} (xs : List (Value A)) (x : Value A) → slice_get xs 0 ≡ Some x → trees_of (map tree xs) ≡ item (tree x) (trees_of (map tree (drop 1 xs)))
first_is [] x h = absurd cc
first_is (y ∷ ys) x h =
    let same : y ≡ x = cc in
    ap (λ z. item (tree z) (trees_of (map tree ys))) same

pub no_first : {A : Type 0} (xs : List (Value A)) → slice_get xs 0 ≡ None → xs ≡ []
no_first [] h = refl
no_first (y ∷ ys) h = absurd cc

pub two_are : {A : Type 0} (xs : List (Value A)) (x y : Value A) → 2 ≤ length xs → x ≡ get_or xs 0 x → y ≡ get_or xs 1 y
    → trees_of (map tree xs) ≡ item (tree x) (item (tree y) (trees_of (map tree (drop 2 xs))))
two_are [] x y h p q = absurd (omega arith)
two_are (a ∷ []) x y h p q = absurd (omega arith)
two_are (a ∷ (b ∷ more)) x y h p q = ap (λ z. item (tree z) (item (tree b) (trees_of (map tree more)))) (sym p) ∙ ap (λ z. item (tree x) (item (tree z) (trees_of (map tree more)))) (sym q)

pub two_alone : {A : Type 0} (xs : List (Value A)) (x y : Value A) → length xs ≡ 2 → x ≡ get_or xs 0 x → y ≡ get_or xs 1 y
    → trees_of (map tree xs) ≡ item (tree x) (item (tree y) none)
two_alone [] x y h p q = absurd (omega arith)
two_alone (a ∷ []) x y h p q = absurd (omega arith)
two_alone (a ∷ (b ∷ [])) x y h p q = ap (λ z. item (tree z) (item (tree b) none)) (sym p) ∙ ap (λ z. item (tree x) (item (tree z) none)) (sym q)
two_alone (a ∷ (b ∷ (d ∷ more))) x y h p q = absurd (omega arith)

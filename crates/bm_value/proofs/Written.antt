-- Writing in turn.
use Rattle.std.proofs.Common.{◌≡◌, ℕ, suc, ◌+◌, ◌<◌, ◌≤◌, List, [], ◌∷◌, ◌++◌, length, get_or, take, map, All, Result, Ok, Err, vec_len, refl, sym, ap, subst, ◌∙◌, append_assoc, arith}
use Rattle.std.specs.List.{flat_map, AllByRecursion}
use Rattle.std.specs.Prelude.{OnOk, OnErr}
use Rattle.std.proofs.lemmas.List.{append-nil, take_more, take_all}
use Rattle.std.proofs.lemmas.Grind.{flat_map-append}
use Rattle.std.proofs.lemmas.List.Concat.{flat_map-cons}
use Rattle.std.proofs.lemmas.List.Elements.{All-from_recursion, All-get_or}
use Rattle.bm_value.specs.declared.value.Value.{Value}
use Rattle.bm_value.specs.declared.value.Pair.{Pair}
use Rattle.bm_value.specs.declared.value.Items.{Items}
use Rattle.bm_value.specs.declared.value.Pairs.{Pairs}
use Rattle.bm_value.specs.declared.value.Value.TheViews.{out-Items, out-Pairs}
use Rattle.bm_value.specs.declared.value.Value.TheFolds.{fold_out-Items, fold_out-Pairs}
use Rattle.bm_value.specs.Tree.{Tree, Trees, Pairs as TreePairs, array, dict, count, count_of_pairs, TreePair}
use Rattle.bm_value.specs.View.{value_step, items_step, pair_step, pairs_step, tree, items_tree, pairs_tree, pair_tree, trees_of, pairs_of}
use Rattle.bm_value.specs.Limits.{IsShort, IsShortPair, AreShort, PairsAreShort}
use Rattle.bm_value.specs.Writing.{array_head, map_head, written, written_pair, written_items, written_pairs, Grows, Puts}

pub count_is : {A : Type 0} (vs : List (Value A)) → count (trees_of (map tree vs)) ≡ length vs
count_is [] = refl
count_is (v ∷ vs) = ap suc (count_is vs)

pub items_are : {A : Type 0} (vs : List (Value A)) → flat_map (λ v. written (tree v)) vs ≡ written_items (trees_of (map tree vs))
items_are [] = refl
items_are (v ∷ vs) = flat_map-cons (λ v. written (tree v)) v vs ∙ ap (λ (x : List ℕ). written (tree v) ++ x) (items_are vs)

each_short : {A : Type 0} (vs : List (Value A)) → AreShort (trees_of (map tree vs)) → AllByRecursion (λ v. IsShort (tree v)) vs
each_short [] h = tt
each_short (v ∷ vs) h = (h.0, each_short vs h.1)

pub all_short : {A : Type 0} (vs : List (Value A)) → AreShort (trees_of (map tree vs)) → All (λ v. IsShort (tree v)) vs
all_short vs h = All-from_recursion (λ v. IsShort (tree v)) vs (each_short vs h)

pub count_of_pairs_is : {A : Type 0} (ps : List (Pair A)) → count_of_pairs (pairs_of (map pair_tree ps)) ≡ length ps
count_of_pairs_is [] = refl
count_of_pairs_is (p ∷ ps) = ap suc (count_of_pairs_is ps)

pub pairs_are : {A : Type 0} (ps : List (Pair A)) → flat_map (λ p. written_pair (pair_tree p)) ps ≡ written_pairs (pairs_of (map pair_tree ps))
pairs_are [] = refl
pairs_are (p ∷ ps) = flat_map-cons (λ p. written_pair (pair_tree p)) p ps ∙ append_assoc (written (pair_tree p).key) (written (pair_tree p).value) _ ∙ ap (λ (x : List ℕ). written (pair_tree p).key ++ (written (pair_tree p).value ++ x)) (pairs_are ps)

each_pair_short : {A : Type 0} (ps : List (Pair A)) → PairsAreShort (pairs_of (map pair_tree ps)) → AllByRecursion (λ p. IsShortPair (pair_tree p)) ps
each_pair_short [] h = tt
each_pair_short (p ∷ ps) h = ((h.0, h.1), each_pair_short ps h.2)

pub all_pairs_short : {A : Type 0} (ps : List (Pair A)) → PairsAreShort (pairs_of (map pair_tree ps)) → All (λ p. IsShortPair (pair_tree p)) ps
all_pairs_short ps h = All-from_recursion (λ p. IsShortPair (pair_tree p)) ps (each_pair_short ps h)

pub short_value_at : {A : Type 0} (vs ws : List (Value A)) (i : ℕ) (v : Value A) → vs ≡ ws → All (λ w. IsShort (tree w)) ws → i < length vs → v ≡ get_or vs i v → IsShort (tree v)
short_value_at vs ws i v same short lt is =
    subst (λ w. IsShort (tree w)) (sym is) (All-get_or (λ w. IsShort (tree w)) vs i v lt (subst (All (λ w. IsShort (tree w))) (sym same) short))

pub short_pair_at : {A : Type 0} (ps qs : List (Pair A)) (i : ℕ) (p : Pair A) → ps ≡ qs → All (λ q. IsShortPair (pair_tree q)) qs → i < length ps → p ≡ get_or ps i p → IsShortPair (pair_tree p)
short_pair_at ps qs i p same short lt is =
    subst (λ q. IsShortPair (pair_tree q)) (sym is) (All-get_or (λ q. IsShortPair (pair_tree q)) ps i p lt (subst (All (λ q. IsShortPair (pair_tree q))) (sym same) short))

pub puts_either : {T E : Type 0} (r : Result T E) (old new text : List ℕ) → OnOk r (new ≡ old ++ text) → OnErr r (new ≡ old) → Puts r old new text
puts_either (Ok y) old new text ok err = ok
puts_either (Err e) old new text ok err = record { more = []; is = err ∙ sym (append-nil old) }

pub puts_then : {T E : Type 0} (r : Result T E) (old mid new x y : List ℕ) → mid ≡ old ++ x → Puts r mid new y → Puts r old new (x ++ y)
puts_then (Ok z) old mid new x y e h = h ∙ ap (λ (w : List ℕ). w ++ y) e ∙ append_assoc old x y
puts_then (Err z) old mid new x y e h = record { more = x ++ h.more; is = h.is ∙ ap (λ (w : List ℕ). w ++ h.more) e ∙ append_assoc old x h.more }

pub grows_then : (old mid new x : List ℕ) → mid ≡ old ++ x → Grows mid new → Grows old new
grows_then old mid new x e h = record { more = x ++ h.more; is = h.is ∙ ap (λ (w : List ℕ). w ++ h.more) e ∙ append_assoc old x h.more }

-- ---- a value's own items and pairs

pub items_out : {A : Type 0} (x : Items A) → items_tree x ≡ trees_of (map tree (out-Items A x).vec.items)
items_out {A} x = fold_out-Items A Tree Trees TreePair TreePairs value_step items_step pair_step pairs_step x

pub pairs_out : {A : Type 0} (x : Pairs A) → pairs_tree x ≡ pairs_of (map pair_tree (out-Pairs A x).vec.items)
pairs_out {A} x = fold_out-Pairs A Tree Trees TreePair TreePairs value_step items_step pair_step pairs_step x

pub items_len : {A : Type 0} (x : Items A) → count (items_tree x) ≡ vec_len (out-Items A x).vec
items_len {A} x = omega (arith, ap count (items_out x), count_is (out-Items A x).vec.items, (out-Items A x).vec.ok.0)

pub pairs_len : {A : Type 0} (x : Pairs A) → count_of_pairs (pairs_tree x) ≡ vec_len (out-Pairs A x).vec
pairs_len {A} x = omega (arith, ap count_of_pairs (pairs_out x), count_of_pairs_is (out-Pairs A x).vec.items, (out-Pairs A x).vec.ok.0)

pub items_short : {A : Type 0} (x : Items A) → AreShort (items_tree x) → All (λ v. IsShort (tree v)) (out-Items A x).vec.items
items_short {A} x h = all_short (out-Items A x).vec.items (subst AreShort (items_out x) h)

pub pairs_short : {A : Type 0} (x : Pairs A) → PairsAreShort (pairs_tree x) → All (λ p. IsShortPair (pair_tree p)) (out-Pairs A x).vec.items
pairs_short {A} x h = all_pairs_short (out-Pairs A x).vec.items (subst PairsAreShort (pairs_out x) h)

pub items_text : {A : Type 0} (x : Items A) (n : ℕ) → n ≡ vec_len (out-Items A x).vec → array_head n ++ flat_map (λ v. written (tree v)) (out-Items A x).vec.items ≡ written (array (items_tree x))
items_text {A} x n e =
    ap (λ (k : ℕ). array_head k ++ flat_map (λ v. written (tree v)) (out-Items A x).vec.items) (e ∙ sym (items_len x))
    ∙ ap (λ (w : List ℕ). array_head (count (items_tree x)) ++ w) (items_are (out-Items A x).vec.items ∙ ap written_items (sym (items_out x)))

pub pairs_text : {A : Type 0} (x : Pairs A) (n : ℕ) → n ≡ vec_len (out-Pairs A x).vec → map_head n ++ flat_map (λ p. written_pair (pair_tree p)) (out-Pairs A x).vec.items ≡ written (dict (pairs_tree x))
pairs_text {A} x n e =
    ap (λ (k : ℕ). map_head k ++ flat_map (λ p. written_pair (pair_tree p)) (out-Pairs A x).vec.items) (e ∙ sym (pairs_len x))
    ∙ ap (λ (w : List ℕ). map_head (count_of_pairs (pairs_tree x)) ++ w) (pairs_are (out-Pairs A x).vec.items ∙ ap written_pairs (sym (pairs_out x)))

pub flat_more : {X : Type 0} (f : X → List ℕ) (xs : List X) (i : ℕ) (x : X) (old mid new : List ℕ) → i < length xs → x ≡ get_or xs i x → mid ≡ old ++ flat_map f (take i xs) → new ≡ mid ++ f x → new ≡ old ++ flat_map f (take (i + 1) xs)
flat_more f xs i x old mid new lt is so_far added =
    let last : flat_map f (take (i + 1) xs) ≡ flat_map f (take i xs) ++ f x =
    ap (flat_map f) (take_more xs i x lt ∙ ap (λ y. take i xs ++ y ∷ []) (sym is)) ∙ flat_map-append f (take i xs) (x ∷ []) ∙ ap (λ (w : List ℕ). flat_map f (take i xs) ++ w) (flat_map-cons f x [] ∙ append-nil (f x)) in
    added ∙ ap (λ (w : List ℕ). w ++ f x) so_far ∙ append_assoc old (flat_map f (take i xs)) (f x) ∙ ap (λ (w : List ℕ). old ++ w) (sym last)

pub flat_whole : {X : Type 0} (f : X → List ℕ) (xs ys : List X) (i : ℕ) (old new : List ℕ) → xs ≡ ys → length xs ≤ i → new ≡ old ++ flat_map f (take i xs) → new ≡ old ++ flat_map f ys
flat_whole f xs ys i old new same le e = e ∙ ap (λ zs. old ++ flat_map f zs) (take_all i xs le ∙ same)

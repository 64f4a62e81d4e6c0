-- How deep the rest of a list nests.
use Rattle.std.proofs.Common.{◌≡◌, ℕ, zero, suc, ◌+◌, ◌<◌, ◌≤◌, max, List, [], ◌∷◌, length, get_or, drop, map, sym, ap, subst, ◌∙◌, arith}
use Rattle.std.proofs.lemmas.List.{drop_more}
use Rattle.bm_value.specs.declared.value.Value.{Value}
use Rattle.bm_value.specs.declared.value.Pair.{Pair}
use Rattle.bm_value.specs.declared.value.Items.{Items}
use Rattle.bm_value.specs.declared.value.Pairs.{Pairs}
use Rattle.bm_value.specs.Tree.{depth, depth_of_items, depth_of_pair, depth_of_pairs}
use Rattle.bm_value.specs.View.{tree, trees_of, items_tree, pair_tree, pairs_of, pairs_tree, values_in, pairs_in}
use Rattle.bm_value.proofs.Written.{items_out, pairs_out}

-- the whole nests within the room exactly where the rest does
pub record SameNesting (room whole rest : ℕ) : Type 0 where
  pub there : whole ≤ room → rest ≤ room
  pub back : rest ≤ room → whole ≤ room

pub nest_more : (room whole now rest one : ℕ) → now ≡ max one rest → one ≤ room → SameNesting room whole now → SameNesting room whole rest
nest_more room whole now rest one e fits same = record { there = λ h. omega (arith, e, same.there h); back = λ h. same.back (omega (arith, e, fits, h)) }

pub nest_stops : (room whole now rest one : ℕ) → now ≡ max one rest → (one ≤ room → ⊥) → SameNesting room whole now → whole ≤ room → ⊥
nest_stops room whole now rest one e deep same h = deep (omega (arith, e, same.there h))

pub item_next : {A : Type 0} (vs : List (Value A)) (i : ℕ) (v : Value A) → i < length vs → v ≡ get_or vs i v
    → depth_of_items (trees_of (map tree (drop i vs))) ≡ max (depth (tree v)) (depth_of_items (trees_of (map tree (drop (i + 1) vs))))
item_next vs i v lt is = ap (λ ws. depth_of_items (trees_of (map tree ws))) (drop_more vs i v lt ∙ ap (λ w. w ∷ drop (i + 1) vs) (sym is))

pub pair_next : {A : Type 0} (ps : List (Pair A)) (i : ℕ) (p : Pair A) → i < length ps → p ≡ get_or ps i p
    → depth_of_pairs (pairs_of (map pair_tree (drop i ps))) ≡ max (depth_of_pair (pair_tree p)) (depth_of_pairs (pairs_of (map pair_tree (drop (i + 1) ps))))
pair_next ps i p lt is = ap (λ ws. depth_of_pairs (pairs_of (map pair_tree ws))) (drop_more ps i p lt ∙ ap (λ w. w ∷ drop (i + 1) ps) (sym is))

pub nests_same : (room a b : ℕ) → a ≡ b → SameNesting room a b
nests_same room a b e = record { there = λ h. omega arith; back = λ h. omega arith }

-- none nests deeper than all of them
deep_item : {A : Type 0} (vs : List (Value A)) (i : ℕ) (d : Value A) → i < length vs → depth (tree (get_or vs i d)) ≤ depth_of_items (trees_of (map tree vs))
deep_item [] i d lt = absurd (omega arith)
deep_item (v ∷ vs) zero d lt = omega arith
deep_item (v ∷ vs) (suc i) d lt = omega (arith, deep_item vs i d (omega arith))

pub item_within : {A : Type 0} (x : Items A) (vs : List (Value A)) (i : ℕ) (v : Value A) → vs ≡ values_in x → i < length vs → v ≡ get_or vs i v → depth (tree v) ≤ depth_of_items (items_tree x)
item_within x vs i v same lt is =
    let deep : depth (tree v) ≤ depth_of_items (trees_of (map tree vs)) = subst (λ w. depth (tree w) ≤ depth_of_items (trees_of (map tree vs))) (sym is) (deep_item vs i v lt) in
    let whole : depth_of_items (trees_of (map tree vs)) ≡ depth_of_items (items_tree x) = ap (λ ws. depth_of_items (trees_of (map tree ws))) same ∙ sym (ap depth_of_items (items_out x)) in
    omega (arith, deep, whole)

deep_pair : {A : Type 0} (ps : List (Pair A)) (i : ℕ) (d : Pair A) → i < length ps → depth_of_pair (pair_tree (get_or ps i d)) ≤ depth_of_pairs (pairs_of (map pair_tree ps))
deep_pair [] i d lt = absurd (omega arith)
deep_pair (p ∷ ps) zero d lt = omega arith
deep_pair (p ∷ ps) (suc i) d lt = omega (arith, deep_pair ps i d (omega arith))

pub pair_within : {A : Type 0} (x : Pairs A) (ps : List (Pair A)) (i : ℕ) (p : Pair A) → ps ≡ pairs_in x → i < length ps → p ≡ get_or ps i p → depth_of_pair (pair_tree p) ≤ depth_of_pairs (pairs_tree x)
pair_within x ps i p same lt is =
    let deep : depth_of_pair (pair_tree p) ≤ depth_of_pairs (pairs_of (map pair_tree ps)) = subst (λ q. depth_of_pair (pair_tree q) ≤ depth_of_pairs (pairs_of (map pair_tree ps))) (sym is) (deep_pair ps i p lt) in
    let whole : depth_of_pairs (pairs_of (map pair_tree ps)) ≡ depth_of_pairs (pairs_tree x) = ap (λ qs. depth_of_pairs (pairs_of (map pair_tree qs))) same ∙ sym (ap depth_of_pairs (pairs_out x)) in
    omega (arith, deep, whole)

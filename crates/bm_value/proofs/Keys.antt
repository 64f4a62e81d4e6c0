-- The last pair with a key.
use Rattle.std.proofs.Common.{◌≡◌, true, false, ℕ, zero, suc, ◌+◌, ◌-◌, ◌<◌, ◌≤◌, List, [], ◌∷◌, length, get_or, drop, map, sym, ap, ◌∙◌, arith}
use Rattle.std.specs.Prelude.{Option, Some, None, if◌then◌else◌}
use Rattle.std.specs.Option.{option_or}
use Rattle.std.proofs.lemmas.List.{drop_more}
use Rattle.bm_value.specs.declared.value.Pair.{Pair}
use Rattle.bm_value.specs.declared.value.Value.TheFolds.{fold_out-Pair}
use Rattle.bm_value.specs.Tree.{Tree, Trees, TreePair, Pairs as TreePairs}
use Rattle.bm_value.specs.Field.{is_str, last_with}
use Rattle.bm_value.specs.View.{value_step, items_step, pair_step, pairs_step, tree, pair_tree, pairs_of}

abbrev pub last_in : {A : Type 0} → List ℕ → List (Pair A) → Option Tree
last_in key ps = last_with key (pairs_of (map pair_tree ps))

pub pair_is : {A : Type 0} (p : Pair A) → pair_tree p ≡ record { key = tree p.key; value = tree p.value }
pair_is {A} p = fold_out-Pair A Tree Trees TreePair TreePairs value_step items_step pair_step pairs_step p

-- where no later pair has the key, this one decides
pub last_here : {A : Type 0} (key : List ℕ) (ps : List (Pair A)) (left : ℕ) (p : Pair A) → 0 < left → left ≤ length ps → p ≡ get_or ps (left - 1) p → last_in key (drop left ps) ≡ None
    → last_in key (drop (left - 1) ps) ≡ (if is_str (pair_tree p).key key then Some (pair_tree p).value else None)
last_here key ps left p lt le is none =
    let next : left - 1 + 1 ≡ left = omega arith in
    let split : drop (left - 1) ps ≡ p ∷ drop left ps = drop_more ps (left - 1) p (omega arith) ∙ ap (λ w. w ∷ drop (left - 1 + 1) ps) (sym is) ∙ ap (λ n. p ∷ drop n ps) next in
    ap (last_in key) split ∙ ap (λ o. option_or o (if is_str (pair_tree p).key key then Some (pair_tree p).value else None)) none

-- what the later pairs give is given by all
pub last_stays : {A : Type 0} (key : List ℕ) (ps : List (Pair A)) (n : ℕ) (t : Tree) → last_in key (drop n ps) ≡ Some t → last_in key ps ≡ Some t
last_stays key ps zero t h = h
last_stays key [] (suc n) t h = h
last_stays key (p ∷ ps) (suc n) t h = ap (λ o. option_or o (if is_str (pair_tree p).key key then Some (pair_tree p).value else None)) (last_stays key ps n t h)

-- where this pair has the key and no later one, its value is the map's
pub last_found : {A : Type 0} (key : List ℕ) (ps : List (Pair A)) (left : ℕ) (p : Pair A) → 0 < left → left ≤ length ps → p ≡ get_or ps (left - 1) p → last_in key (drop left ps) ≡ None → is_str (tree p.key) key ≡ true
    → last_in key ps ≡ Some (tree p.value)
last_found key ps left p lt le is none has =
    let here = last_here key ps left p lt le is none in
    let this : (if is_str (pair_tree p).key key then Some (pair_tree p).value else None) ≡ Some (tree p.value) =
    ap (λ (q : TreePair). if is_str q.key key then Some q.value else None) (pair_is p) ∙ ap (λ b. if b then Some (tree p.value) else None) has in
    last_stays key ps (left - 1) (tree p.value) (here ∙ this)

-- and where it has another key, none of them has
pub last_not : {A : Type 0} (key : List ℕ) (ps : List (Pair A)) (left : ℕ) (p : Pair A) → 0 < left → left ≤ length ps → p ≡ get_or ps (left - 1) p → last_in key (drop left ps) ≡ None → is_str (tree p.key) key ≡ false
    → last_in key (drop (left - 1) ps) ≡ None
last_not key ps left p lt le is none other =
    let here = last_here key ps left p lt le is none in
    here ∙ ap (λ (q : TreePair). if is_str q.key key then Some q.value else None) (pair_is p) ∙ ap (λ b. if b then Some (tree p.value) else None) other

-- Whether the rest of a list has only short parts.
use Rattle.std.proofs.Common.{◌≡◌, ℕ, ◌+◌, ◌<◌, ◌≤◌, List, ◌∷◌, length, get_or, drop, map, sym, ap, subst, ◌∙◌}
use Rattle.std.proofs.lemmas.List.{drop_more, drop_all}
use Rattle.bm_value.specs.declared.value.Value.{Value}
use Rattle.bm_value.specs.declared.value.Pair.{Pair}
use Rattle.bm_value.specs.Tree.{Tree, Trees, item, Pairs as TreePairs, pair, TreePair}
use Rattle.bm_value.specs.View.{tree, trees_of, pair_tree, pairs_of}
use Rattle.bm_value.specs.Limits.{IsShort, AreShort, PairsAreShort, IsShortPair}

-- the whole is so exactly where the rest is
pub record SameFact (whole rest : Type 0) : Type 0 where
  pub there : whole → rest
  pub back : rest → whole

pub item_rest : {A : Type 0} (vs : List (Value A)) (i : ℕ) (v : Value A) → i < length vs → v ≡ get_or vs i v
    → trees_of (map tree (drop i vs)) ≡ item (tree v) (trees_of (map tree (drop (i + 1) vs)))
item_rest vs i v lt is = ap (λ ws. trees_of (map tree ws)) (drop_more vs i v lt ∙ ap (λ w. w ∷ drop (i + 1) vs) (sym is))

pub pair_rest : {A : Type 0} (ps : List (Pair A)) (i : ℕ) (p : Pair A) → i < length ps → p ≡ get_or ps i p
    → pairs_of (map pair_tree (drop i ps)) ≡ pair (pair_tree p).key (pair_tree p).value (pairs_of (map pair_tree (drop (i + 1) ps)))
pair_rest ps i p lt is = ap (λ ws. pairs_of (map pair_tree ws)) (drop_more ps i p lt ∙ ap (λ w. w ∷ drop (i + 1) ps) (sym is))

pub items_more : (whole : Type 0) (now rest : Trees) (t : Tree) → now ≡ item t rest → IsShort t → SameFact whole (AreShort now) → SameFact whole (AreShort rest)
items_more whole now rest t e fits same = record { there = λ h. (subst AreShort e (same.there h)).1; back = λ h. same.back (subst AreShort (sym e) (fits, h)) }

pub items_stop : (whole : Type 0) (now rest : Trees) (t : Tree) → now ≡ item t rest → (IsShort t → ⊥) → SameFact whole (AreShort now) → whole → ⊥
items_stop whole now rest t e long same h = long (subst AreShort e (same.there h)).0

pub pairs_more : (whole : Type 0) (now rest : TreePairs) (p : TreePair) → now ≡ pair p.key p.value rest → IsShortPair p → SameFact whole (PairsAreShort now) → SameFact whole (PairsAreShort rest)
pairs_more whole now rest p e fits same = record { there = λ h. (subst PairsAreShort e (same.there h)).2; back = λ h. same.back (subst PairsAreShort (sym e) (fits.0, fits.1, h)) }

pub pairs_stop : (whole : Type 0) (now rest : TreePairs) (p : TreePair) → now ≡ pair p.key p.value rest → (IsShortPair p → ⊥) → SameFact whole (PairsAreShort now) → whole → ⊥
pairs_stop whole now rest p e long same h = let s = subst PairsAreShort e (same.there h) in long (s.0, s.1)

pub items_same : (now rest : Trees) → now ≡ rest → SameFact (AreShort now) (AreShort rest)
items_same now rest e = record { there = λ h. subst AreShort e h; back = λ h. subst AreShort (sym e) h }

pub pairs_same : (now rest : TreePairs) → now ≡ rest → SameFact (PairsAreShort now) (PairsAreShort rest)
pairs_same now rest e = record { there = λ h. subst PairsAreShort e h; back = λ h. subst PairsAreShort (sym e) h }

pub items_end : {A : Type 0} (vs : List (Value A)) (i : ℕ) → length vs ≤ i → AreShort (trees_of (map tree (drop i vs)))
items_end vs i le = subst (λ (ws : List (Value _)). AreShort (trees_of (map tree ws))) (sym (drop_all i vs le)) tt

pub pairs_end : {A : Type 0} (ps : List (Pair A)) (i : ℕ) → length ps ≤ i → PairsAreShort (pairs_of (map pair_tree (drop i ps)))
pairs_end ps i le = subst (λ (ws : List (Pair _)). PairsAreShort (pairs_of (map pair_tree ws))) (sym (drop_all i ps le)) tt

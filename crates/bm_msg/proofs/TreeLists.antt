-- Trees that are built of values, and keys that are put one after another.
use Rattle.std.proofs.Common.{◌≡◌, sym, ◌∙◌, ap, Bool, ℕ, List, [], ◌∷◌, ◌++◌, map, Vec, Global, append_assoc}
use Rattle.bm_value.specs.declared.value.Value.{Value, Str, Array, Map, Bool as Bool_value}
use Rattle.bm_value.specs.declared.value.Pair.{Pair}
use Rattle.bm_value.specs.declared.value.Value.TheViews.{roll-Items, roll-Pairs}
use Rattle.bm_value.specs.Tree.{Tree, bool, str, array, dict, Trees, TreePair, Pairs as TreePairs}
use Rattle.bm_value.specs.declared.value.Value.TheVariants.{rolls-Str, rolls-Bool}
use Rattle.bm_value.specs.declared.value.Value.TheOpen.{Value-F}
use Rattle.bm_value.specs.declared.value.Value.TheFolds.{fold-roll-Value}
use Rattle.bm_value.specs.View.{value_step, items_step, pair_step, pairs_step, tree, trees_of, pairs_of, pair_tree}
use Rattle.bm_value.proofs.Values.{tree-Array, tree-Map, items_tree-of, pairs_tree-of}

pub array_of : {A : Type 0} (v : Vec (Value A) A) → tree (Array (roll-Items A record { vec = v })) ≡ array (trees_of (map tree v.items))
array_of {A} v = tree-Array (roll-Items A record { vec = v }) ∙ ap array (items_tree-of v)

pub map_of : {A : Type 0} (v : Vec (Pair A) A) → tree (Map (roll-Pairs A record { vec = v })) ≡ dict (pairs_of (map pair_tree v.items))
map_of {A} v = tree-Map (roll-Pairs A record { vec = v }) ∙ ap dict (pairs_tree-of v)

pub two_more : (old n1 n2 : List TreePair) (a b : TreePair) → n1 ≡ old ++ a ∷ [] → n2 ≡ n1 ++ b ∷ [] → n2 ≡ old ++ a ∷ b ∷ []
two_more old n1 n2 a b p q = q ∙ ap (λ ks. ks ++ b ∷ []) p ∙ append_assoc old (a ∷ []) (b ∷ [])

pub third_more : (old n1 n2 : List TreePair) (a b d : TreePair) → n1 ≡ old ++ a ∷ [] → n2 ≡ n1 ++ b ∷ [] → n2 ++ d ∷ [] ≡ old ++ a ∷ b ∷ d ∷ []
third_more old n1 n2 a b d p q = ap (λ ks. ks ++ d ∷ []) (two_more old n1 n2 a b p q) ∙ append_assoc old (a ∷ b ∷ []) (d ∷ [])

pub then_keys : (old n1 n2 ks : List TreePair) (a b : TreePair) → n1 ≡ old ++ a ∷ [] → n2 ≡ n1 ++ b ∷ [] → n2 ++ ks ≡ old ++ a ∷ b ∷ ks
then_keys old n1 n2 ks a b p q = ap (λ ms. ms ++ ks) (two_more old n1 n2 a b p q) ∙ append_assoc old (a ∷ b ∷ []) ks

pub str_of : (s : List ℕ) → tree {A = Global} (Str s) ≡ str s
str_of s = ap tree (sym (rolls-Str s)) ∙ fold-roll-Value Global Tree Trees TreePair TreePairs value_step items_step pair_step pairs_step (Value-F.Str s)

pub bool_of : (b : Bool) → tree {A = Global} (Bool_value b) ≡ bool b
bool_of b = ap tree (sym (rolls-Bool b)) ∙ fold-roll-Value Global Tree Trees TreePair TreePairs value_step items_step pair_step pairs_step (Value-F.Bool b)

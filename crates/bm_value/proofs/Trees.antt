-- The trees of values that a crate builds, by what their parts hold.
use Rattle.std.proofs.Common.{◌≡◌, sym, ◌∙◌, ap, Bool, ℕ, List, map, Vec}
use Rattle.bm_value.specs.declared.value.Value.{Value, Nil, Bool as Bool_value, Str, Bin, Array, Map}
use Rattle.bm_value.specs.declared.value.Pair.{Pair}
use Rattle.bm_value.specs.declared.value.Value.TheViews.{roll-Items, roll-Pairs}
use Rattle.bm_value.specs.declared.value.Value.TheVariants.{rolls-Nil, rolls-Str, rolls-Bin, rolls-Bool}
use Rattle.bm_value.specs.declared.value.Value.TheOpen.{Value-F}
use Rattle.bm_value.specs.declared.value.Value.TheFolds.{fold-roll-Value}
use Rattle.bm_value.specs.Tree.{Tree, nil, bool, str, bin, array, dict, Trees, TreePair, Pairs as TreePairs}
use Rattle.bm_value.specs.View.{value_step, items_step, pair_step, pairs_step, tree, trees_of, pairs_of, pair_tree}
use Rattle.bm_value.proofs.Values.{tree-Array, tree-Map, items_tree-of, pairs_tree-of}

pub array_of : {A : Type 0} (v : Vec (Value A) A) → tree (Array (roll-Items A record { vec = v })) ≡ array (trees_of (map tree v.items))
array_of {A} v = tree-Array (roll-Items A record { vec = v }) ∙ ap array (items_tree-of v)

pub map_of : {A : Type 0} (v : Vec (Pair A) A) → tree (Map (roll-Pairs A record { vec = v })) ≡ dict (pairs_of (map pair_tree v.items))
map_of {A} v = tree-Map (roll-Pairs A record { vec = v }) ∙ ap dict (pairs_tree-of v)

pub nil_of : (A : Type 0) → tree {A = A} Nil ≡ nil
nil_of A = ap tree (sym rolls-Nil) ∙ fold-roll-Value A Tree Trees TreePair TreePairs value_step items_step pair_step pairs_step Value-F.Nil

pub bool_of : (A : Type 0) (b : Bool) → tree {A = A} (Bool_value b) ≡ bool b
bool_of A b = ap tree (sym (rolls-Bool b)) ∙ fold-roll-Value A Tree Trees TreePair TreePairs value_step items_step pair_step pairs_step (Value-F.Bool b)

pub str_of : (A : Type 0) (s : List ℕ) → tree {A = A} (Str s) ≡ str s
str_of A s = ap tree (sym (rolls-Str s)) ∙ fold-roll-Value A Tree Trees TreePair TreePairs value_step items_step pair_step pairs_step (Value-F.Str s)

pub bin_of : (A : Type 0) (s : List ℕ) → tree {A = A} (Bin s) ≡ bin s
bin_of A s = ap tree (sym (rolls-Bin s)) ∙ fold-roll-Value A Tree Trees TreePair TreePairs value_step items_step pair_step pairs_step (Value-F.Bin s)

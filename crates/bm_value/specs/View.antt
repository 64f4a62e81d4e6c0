-- A value as a tree, without where it lies in memory. Contracts see values by `tree`, never by
-- their fields.
use Rattle.std.specs.Prelude.{List, [], ◌∷◌}
use Rattle.bm_value.specs.Tree.{Tree, nil, bool, int, bits32, bits64, str, bin, array, dict, ext, Trees, none, item, Pairs as TreePairs, no_pairs, pair, TreePair}
use Rattle.bm_value.specs.declared.value.Value.{Value}
use Rattle.bm_value.specs.declared.value.Pair.{Pair}
use Rattle.bm_value.specs.declared.value.Items.{Items}
use Rattle.bm_value.specs.declared.value.Pairs.{Pairs}
use Rattle.bm_value.specs.declared.value.Value.TheViews.{out-Items, out-Pairs}
use Rattle.bm_value.specs.declared.value.Value.TheFolds.{fold-Value, fold-Items, fold-Pair, fold-Pairs}
use Rattle.bm_value.specs.declared.value.Value.TheOpen.{Value-F, Items-F, Pair-F, Pairs-F}

abbrev pub trees_of : List Tree → Trees
trees_of [] = none
trees_of (t ∷ ts) = item t (trees_of ts)

abbrev pub pairs_of : List TreePair → TreePairs
pairs_of [] = no_pairs
pairs_of (p ∷ ps) = pair p.key p.value (pairs_of ps)

abbrev pub value_step : {A : Type 0} → Value-F A Tree Trees TreePair TreePairs → Tree
value_step Value-F.Nil = nil
value_step (Value-F.Bool b) = bool b
value_step (Value-F.Int n) = int n
value_step (Value-F.Bits32 n) = bits32 n
value_step (Value-F.Bits64 n) = bits64 n
value_step (Value-F.Str s) = str s
value_step (Value-F.Bin s) = bin s
value_step (Value-F.Array ts) = array ts
value_step (Value-F.Map ps) = dict ps
value_step (Value-F.Ext k s) = ext k s

abbrev pub items_step : {A : Type 0} → Items-F A Tree Trees TreePair TreePairs → Trees
items_step x = trees_of x.vec.items

abbrev pub pair_step : {A : Type 0} → Pair-F A Tree Trees TreePair TreePairs → TreePair
pair_step x = record { key = x.key; value = x.value }

abbrev pub pairs_step : {A : Type 0} → Pairs-F A Tree Trees TreePair TreePairs → TreePairs
pairs_step x = pairs_of x.vec.items

abbrev pub tree : {A : Type 0} → Value A → Tree
tree {A} = fold-Value A Tree Trees TreePair TreePairs value_step items_step pair_step pairs_step

abbrev pub pair_tree : {A : Type 0} → Pair A → TreePair
pair_tree {A} = fold-Pair A Tree Trees TreePair TreePairs value_step items_step pair_step pairs_step

abbrev pub items_tree : {A : Type 0} → Items A → Trees
items_tree {A} =
    fold-Items A Tree Trees TreePair TreePairs value_step items_step pair_step pairs_step

abbrev pub pairs_tree : {A : Type 0} → Pairs A → TreePairs
pairs_tree {A} =
    fold-Pairs A Tree Trees TreePair TreePairs value_step items_step pair_step pairs_step

-- the values of an array, and the pairs of a map
abbrev pub values_in : {A : Type 0} → Items A → List (Value A)
values_in {A} x = (out-Items A x).vec.items

abbrev pub pairs_in : {A : Type 0} → Pairs A → List (Pair A)
pairs_in {A} x = (out-Pairs A x).vec.items

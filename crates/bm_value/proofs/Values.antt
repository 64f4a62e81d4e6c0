-- A value by its first byte, and values level by level.
use Rattle.std.proofs.Common.{◌≡◌, ℕ, zero, suc, ◌<◌, ◌-◌, List, map, Ok, Vec, refl, sym, ap, ◌∙◌, arith}
use Rattle.bm_value.specs.Tree.{Tree, array, dict, Trees, TreePair, Pairs as TreePairs}
use Rattle.bm_value.specs.View.{value_step, items_step, pair_step, pairs_step, tree, trees_of, pairs_of, pair_tree, items_tree, pairs_tree}
use Rattle.bm_value.specs.Reading.{mapped, ◌>>=◌, length_at, items_at, pairs_at, array_with, map_with, value_at, value_with, inner}
use Rattle.bm_value.specs.declared.value.Items.{Items}
use Rattle.bm_value.specs.declared.value.Value.{Value, Map, Array}
use Rattle.bm_value.specs.declared.value.Pair.{Pair}
use Rattle.bm_value.specs.declared.value.Pairs.{Pairs}
use Rattle.bm_value.specs.declared.value.Value.TheViews.{roll-Items, roll-Pairs}
use Rattle.bm_value.specs.declared.value.Value.TheVariants.{rolls-Map, rolls-Array}
use Rattle.bm_value.specs.declared.value.Value.TheOpen.{Value-F}
use Rattle.bm_value.specs.declared.value.Value.TheFolds.{fold-roll-Value, fold-roll-Items, fold-roll-Pairs}
use Rattle.bm_value.specs.declared.row.Size.{Size}

pub value_at-is : (room : ℕ) (bytes : List ℕ) → value_at room bytes ≡ value_with (inner room) bytes
unfolding value_at
value_at-is zero bytes = refl
value_at-is (suc room) bytes = refl

pub items_tree-of : {A : Type 0} (v : Vec (Value A) A) → items_tree (roll-Items A record { vec = v }) ≡ trees_of (map tree v.items)
items_tree-of {A} v = fold-roll-Items A Tree Trees TreePair TreePairs value_step items_step pair_step pairs_step record { vec = v }

pub pairs_tree-of : {A : Type 0} (v : Vec (Pair A) A) → pairs_tree (roll-Pairs A record { vec = v }) ≡ pairs_of (map pair_tree v.items)
pairs_tree-of {A} v = fold-roll-Pairs A Tree Trees TreePair TreePairs value_step items_step pair_step pairs_step record { vec = v }

pub tree-Map : {A : Type 0} (p : Pairs A) → tree (Map p) ≡ dict (pairs_tree p)
tree-Map {A} p = ap tree (sym (rolls-Map p)) ∙ fold-roll-Value A Tree Trees TreePair TreePairs value_step items_step pair_step pairs_step (Value-F.Map p)

pub tree-Array : {A : Type 0} (x : Items A) → tree (Array x) ≡ array (items_tree x)
tree-Array {A} x = ap tree (sym (rolls-Array x)) ∙ fold-roll-Value A Tree Trees TreePair TreePairs value_step items_step pair_step pairs_step (Value-F.Array x)

pub array_read : (room : ℕ) (s : Size) (bytes : List ℕ) (n : ℕ) (rest : List ℕ) (ts : Trees) (after : List ℕ) → 0 < room → length_at s bytes ≡ Ok (n, rest) → items_at (value_at (room - 1)) n rest ≡ Ok (ts, after)
    → array_with (inner room) s bytes ≡ Ok (array ts, after)
array_read zero s bytes n rest ts after lt e f = absurd (omega arith)
array_read (suc room) s bytes n rest ts after lt e f =
    let k : suc room - 1 ≡ room = omega arith in
    ap (λ r. r >>= λ n. mapped array (items_at (value_at room) n.0 n.1)) e ∙ ap (mapped array) (ap (λ d. items_at (value_at d) n rest) (sym k) ∙ f)

pub map_read : (room : ℕ) (s : Size) (bytes : List ℕ) (n : ℕ) (rest : List ℕ) (ps : TreePairs) (after : List ℕ) → 0 < room → length_at s bytes ≡ Ok (n, rest) → pairs_at (value_at (room - 1)) n rest ≡ Ok (ps, after)
    → map_with (inner room) s bytes ≡ Ok (dict ps, after)
map_read zero s bytes n rest ps after lt e f = absurd (omega arith)
map_read (suc room) s bytes n rest ps after lt e f =
    let k : suc room - 1 ≡ room = omega arith in
    ap (λ r. r >>= λ n. mapped dict (pairs_at (value_at room) n.0 n.1)) e ∙ ap (mapped dict) (ap (λ d. pairs_at (value_at d) n rest) (sym k) ∙ f)

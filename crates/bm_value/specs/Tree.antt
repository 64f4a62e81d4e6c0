-- MessagePack trees. A float is kept as its bits, a str as the bytes of its text. The children have
-- lists of their own (`Trees`, `Pairs`), since the logic has no nested data types.
use Rattle.std.specs.Prelude.{ℕ, suc, max, ℤ, List, Bool}

mutual
  pub data Tree : Type 0 where
    nil : Tree
    bool : Bool → Tree
    int : ℤ → Tree
    bits32 : ℕ → Tree
    bits64 : ℕ → Tree
    str : List ℕ → Tree
    bin : List ℕ → Tree
    array : Trees → Tree
    dict : Pairs → Tree
    ext : ℤ → List ℕ → Tree

  pub data Trees : Type 0 where
    none : Trees
    item : Tree → Trees → Trees

  pub data Pairs : Type 0 where
    no_pairs : Pairs
    pair : Tree → Tree → Pairs → Pairs

-- a key and its value
pub record TreePair : Type 0 where
  pub key : Tree
  pub value : Tree

-- The depth is 0 for a value with no value inside. Of an array or a map it is one more than of its
-- deepest child, and 1 where it is empty.
abbrev mutual
  pub depth : Tree → ℕ
  depth nil = 0
  depth (bool b) = 0
  depth (int z) = 0
  depth (bits32 n) = 0
  depth (bits64 n) = 0
  depth (str s) = 0
  depth (bin s) = 0
  depth (array ts) = suc (depth_of_items ts)
  depth (dict ps) = suc (depth_of_pairs ps)
  depth (ext t s) = 0

  pub depth_of_items : Trees → ℕ
  depth_of_items none = 0
  depth_of_items (item t ts) = max (depth t) (depth_of_items ts)

  pub depth_of_pairs : Pairs → ℕ
  depth_of_pairs no_pairs = 0
  depth_of_pairs (pair k v ps) = max (max (depth k) (depth v)) (depth_of_pairs ps)

-- how many
abbrev pub count : Trees → ℕ
count none = 0
count (item t ts) = suc (count ts)

abbrev pub count_of_pairs : Pairs → ℕ
count_of_pairs no_pairs = 0
count_of_pairs (pair k v ps) = suc (count_of_pairs ps)

abbrev pub depth_of_pair : TreePair → ℕ
depth_of_pair p = max (depth p.key) (depth p.value)

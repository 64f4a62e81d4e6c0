-- Which trees can be written.
use Rattle.std.specs.Prelude.{◌<◌, ◌^◌, length}
use Rattle.std.specs.Int.{w8}
use Rattle.std.specs.Int.RustNames.{FitsSigned}
use Rattle.std.specs.Str.{IsUtf8}
use Rattle.bm_value.specs.Num.{IsNum}
use Rattle.bm_value.specs.Tree.{Tree, nil, bool, int, bits32, bits64, str, bin, array, dict, ext, Trees, none, item, Pairs, no_pairs, pair, TreePair, count, count_of_pairs}

-- No str, bin, ext, array or map is longer than 2^32-1, the most that a length's field can say.
abbrev mutual
  pub IsShort : Tree → Type 0
  IsShort nil = Unit {0}
  IsShort (bool b) = Unit {0}
  IsShort (int z) = Unit {0}
  IsShort (bits32 n) = Unit {0}
  IsShort (bits64 n) = Unit {0}
  IsShort (str s) = length s < 2 ^ 32
  IsShort (bin s) = length s < 2 ^ 32
  IsShort (ext k s) = length s < 2 ^ 32
  IsShort (array ts) = (count ts < 2 ^ 32) × AreShort ts
  IsShort (dict ps) = (count_of_pairs ps < 2 ^ 32) × PairsAreShort ps

  pub AreShort : Trees → Type 0
  AreShort none = Unit {0}
  AreShort (item t ts) = IsShort t × AreShort ts

  pub PairsAreShort : Pairs → Type 0
  PairsAreShort no_pairs = Unit {0}
  PairsAreShort (pair k v ps) = IsShort k × IsShort v × PairsAreShort ps

abbrev pub IsShortPair : TreePair → Type 0
IsShortPair p = IsShort p.key × IsShort p.value

-- Numbers are within their kinds and strs are UTF-8, as in the tree of every value.
abbrev mutual
  pub IsWellFormed : Tree → Type 0
  IsWellFormed nil = Unit {0}
  IsWellFormed (bool b) = Unit {0}
  IsWellFormed (int z) = IsNum z
  IsWellFormed (bits32 n) = n < 2 ^ 32
  IsWellFormed (bits64 n) = n < 2 ^ 64
  IsWellFormed (str s) = IsUtf8 s
  IsWellFormed (bin s) = Unit {0}
  IsWellFormed (ext k s) = FitsSigned w8 k
  IsWellFormed (array ts) = AreWellFormed ts
  IsWellFormed (dict ps) = PairsAreWellFormed ps

  pub AreWellFormed : Trees → Type 0
  AreWellFormed none = Unit {0}
  AreWellFormed (item t ts) = IsWellFormed t × AreWellFormed ts

  pub PairsAreWellFormed : Pairs → Type 0
  PairsAreWellFormed no_pairs = Unit {0}
  PairsAreWellFormed (pair k v ps) = IsWellFormed k × IsWellFormed v × PairsAreWellFormed ps

abbrev pub IsWellFormedPair : TreePair → Type 0
IsWellFormedPair p = IsWellFormed p.key × IsWellFormed p.value

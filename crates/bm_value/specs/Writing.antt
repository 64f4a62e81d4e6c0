-- The written form (MessagePack specification): of each kind the format with the fewest bytes. A
-- number of at least 0 is written as unsigned, one below as signed. Pairs stand in the map's order.
use Rattle.std.specs.Prelude.{◌≡◌, ℕ, ◌+◌, ◌^◌, ◌==◌, ℤ, pos, negsuc, List, [], ◌∷◌, ◌++◌, length, Result, Ok, Err, nat_lt, if◌then◌else◌}
use Rattle.std.specs.Int.{Width, w8, w16, w32, w64, to_be_bytes, cast_unsigned}
use Rattle.bm_value.specs.Tree.{Tree, nil, bool, int, bits32, bits64, str, bin, array, dict, ext, Trees, none, item, Pairs, no_pairs, pair, TreePair, count, count_of_pairs}

-- a first byte and a number behind it
abbrev pub headed : ℕ → Width → ℕ → List ℕ
headed b w n = b ∷ to_be_bytes w n

unfoldable pub unsigned : ℕ → List ℕ
unsigned n =
    if nat_lt n 0x80 then n ∷ [] else
    if nat_lt n (2 ^ 8) then headed 0xcc w8 n else
    if nat_lt n (2 ^ 16) then headed 0xcd w16 n else
    if nat_lt n (2 ^ 32) then headed 0xce w32 n else
    headed 0xcf w64 n

-- the number -1 - n
unfoldable pub negative : ℕ → List ℕ
negative n =
    if nat_lt n 32 then cast_unsigned w8 (negsuc n) ∷ [] else
    if nat_lt n (2 ^ 7) then headed 0xd0 w8 (cast_unsigned w8 (negsuc n)) else
    if nat_lt n (2 ^ 15) then headed 0xd1 w16 (cast_unsigned w16 (negsuc n)) else
    if nat_lt n (2 ^ 31) then headed 0xd2 w32 (cast_unsigned w32 (negsuc n)) else
    headed 0xd3 w64 (cast_unsigned w64 (negsuc n))

abbrev pub number : ℤ → List ℕ
number (pos n) = unsigned n
number (negsuc n) = negative n

unfoldable pub str_head : ℕ → List ℕ
str_head n =
    if nat_lt n 32 then (0xa0 + n) ∷ [] else
    if nat_lt n (2 ^ 8) then headed 0xd9 w8 n else
    if nat_lt n (2 ^ 16) then headed 0xda w16 n else
    headed 0xdb w32 n

unfoldable pub bin_head : ℕ → List ℕ
bin_head n =
    if nat_lt n (2 ^ 8) then headed 0xc4 w8 n else
    if nat_lt n (2 ^ 16) then headed 0xc5 w16 n else
    headed 0xc6 w32 n

unfoldable pub ext_head : ℕ → List ℕ
ext_head n =
    if n == 1 then 0xd4 ∷ [] else
    if n == 2 then 0xd5 ∷ [] else
    if n == 4 then 0xd6 ∷ [] else
    if n == 8 then 0xd7 ∷ [] else
    if n == 16 then 0xd8 ∷ [] else
    if nat_lt n (2 ^ 8) then headed 0xc7 w8 n else
    if nat_lt n (2 ^ 16) then headed 0xc8 w16 n else
    headed 0xc9 w32 n

unfoldable pub array_head : ℕ → List ℕ
array_head n =
    if nat_lt n 16 then (0x90 + n) ∷ [] else
    if nat_lt n (2 ^ 16) then headed 0xdc w16 n else
    headed 0xdd w32 n

unfoldable pub map_head : ℕ → List ℕ
map_head n =
    if nat_lt n 16 then (0x80 + n) ∷ [] else
    if nat_lt n (2 ^ 16) then headed 0xde w16 n else
    headed 0xdf w32 n

abbrev mutual
  pub written : Tree → List ℕ
  written nil = 0xc0 ∷ []
  written (bool b) = (if b then 0xc3 else 0xc2) ∷ []
  written (int z) = number z
  written (bits32 n) = headed 0xca w32 n
  written (bits64 n) = headed 0xcb w64 n
  written (str s) = str_head (length s) ++ s
  written (bin s) = bin_head (length s) ++ s
  written (ext k s) = ext_head (length s) ++ (cast_unsigned w8 k ∷ s)
  written (array ts) = array_head (count ts) ++ written_items ts
  written (dict ps) = map_head (count_of_pairs ps) ++ written_pairs ps

  pub written_items : Trees → List ℕ
  written_items none = []
  written_items (item t ts) = written t ++ written_items ts

  pub written_pairs : Pairs → List ℕ
  written_pairs no_pairs = []
  written_pairs (pair k v ps) = written k ++ (written v ++ written_pairs ps)

abbrev pub written_pair : TreePair → List ℕ
written_pair p = written p.key ++ written p.value

-- new begins with old
pub record Grows (old new : List ℕ) : Type 0 where
  pub more : List ℕ
  pub is : new ≡ old ++ more

-- The text was added, or a front of some text where memory ran out.
abbrev pub Puts : {T E : Type 0} → Result T E → List ℕ → List ℕ → List ℕ → Type 0
Puts (Ok y) old new text = new ≡ old ++ text
Puts (Err e) old new text = Grows old new

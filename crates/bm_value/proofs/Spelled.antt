-- The written form of a tree spells it.
use Rattle.std.proofs.Common.{◌≡◌, ℕ, ◌+◌, ◌-◌, ◌<◌, ◌≤◌, ◌^◌, Bool, true, false, List, [], ◌∷◌, ◌++◌, length, refl, sym, ap, subst, arith}
use Rattle.std.specs.Prelude.{ℤ, pos, negsuc, nat_lt, ◌==◌, if◌then◌else◌}
use Rattle.std.specs.Int.{w8, to_be_bytes, cast_signed, cast_unsigned}
use Rattle.std.specs.Int.RustNames.{FitsSigned}
use Rattle.std.specs.Str.{IsUtf8}
use Rattle.std.proofs.lemmas.Bool.{ltb-true, lt-ltb, le-ltb}
use Rattle.std.proofs.lemmas.Nat.{from_be_bytes-to_be_bytes_2, from_be_bytes-to_be_bytes_4, from_be_bytes-to_be_bytes_8}
use Rattle.std.proofs.lemmas.Int.{to_z-of_z}
use Rattle.std.proofs.Math.Facts.{to_z_pos}
use Rattle.bm_value.specs.declared.row.Wide.{Wide}
use Rattle.bm_value.specs.declared.row.Wide.TheVariants as wide
use Rattle.bm_value.specs.declared.row.Size.{Size}
use Rattle.bm_value.specs.declared.row.Size.TheVariants as size
use Rattle.bm_value.specs.declared.row.Plain.{Plain}
use Rattle.bm_value.specs.declared.row.Plain.TheVariants as plain
use Rattle.bm_value.specs.declared.row.Row.{Row}
use Rattle.bm_value.specs.declared.row.Row.TheVariants as rows
use Rattle.bm_value.specs.Num.{IsNum}
use Rattle.bm_value.specs.Row.{width, limit, row}
use Rattle.bm_value.specs.Tree.{Tree, nil, bool, int, bits32, bits64, str, bin, array, dict, ext, Trees, none, item, Pairs, no_pairs, pair, count, count_of_pairs}
use Rattle.bm_value.specs.Spelling.{IsField, IsLength, IsPlain, SpellsPlain, Opens, Spells, SpellsItems, SpellsPairs}
use Rattle.bm_value.specs.Limits.{IsShort, AreShort, PairsAreShort, IsWellFormed, AreWellFormed, PairsAreWellFormed}
use Rattle.bm_value.specs.Writing.{headed, unsigned, negative, number, str_head, bin_head, ext_head, array_head, map_head, written, written_items, written_pairs}

-- ---- numbers

field : (w : Wide) (n : ℕ) → n < limit w → IsField (width w) (to_be_bytes (width w) n) n
field wide.One n h = record { len = refl; number = omega arith }
field wide.Two n h = record { len = refl; number = from_be_bytes-to_be_bytes_2 n h }
field wide.Four n h = record { len = refl; number = from_be_bytes-to_be_bytes_4 n h }
field wide.Eight n h = record { len = refl; number = from_be_bytes-to_be_bytes_8 n h }

by_test : (P : List ℕ → Type 0) (b : Bool) (x y : List ℕ) → (b ≡ true → P x) → (b ≡ false → P y) → P (if b then x else y)
by_test P true x y f g = f refl
by_test P false x y f g = g refl

not_below : (a b : ℕ) → nat_lt a b ≡ false → b ≤ a
not_below a b h = grind (arith, lt-ltb)

small_row : (b : ℕ) → b < 0x80 → row b ≡ rows.Plain (plain.Small (cast_signed w8 b))
unfolding row
small_row b h = rw (lt-ltb b 0x80 h) refl

high_row : (b : ℕ) → 0xe0 ≤ b → row b ≡ rows.Plain (plain.Small (cast_signed w8 b))
unfolding row
high_row b h = rw (le-ltb b 0x80 (omega arith), le-ltb b 0x90 (omega arith), le-ltb b 0xa0 (omega arith), le-ltb b 0xc0 (omega arith), le-ltb b 0xe0 h) refl

str_row : (n : ℕ) → n < 32 → row (0xa0 + n) ≡ rows.Plain (plain.Str (size.Here n))
unfolding row
str_row n h =
    let back : 0xa0 + n - 0xa0 ≡ n = omega arith in
    rw (le-ltb (0xa0 + n) 0x80 (omega arith), le-ltb (0xa0 + n) 0x90 (omega arith), le-ltb (0xa0 + n) 0xa0 (omega arith), lt-ltb (0xa0 + n) 0xc0 (omega arith)) (ap (λ (k : ℕ). rows.Plain (plain.Str (size.Here k))) back)

array_row : (n : ℕ) → n < 16 → row (0x90 + n) ≡ rows.Array (size.Here n)
unfolding row
array_row n h =
    let back : 0x90 + n - 0x90 ≡ n = omega arith in
    rw (le-ltb (0x90 + n) 0x80 (omega arith), le-ltb (0x90 + n) 0x90 (omega arith), lt-ltb (0x90 + n) 0xa0 (omega arith)) (ap (λ (k : ℕ). rows.Array (size.Here k)) back)

map_row : (n : ℕ) → n < 16 → row (0x80 + n) ≡ rows.Map (size.Here n)
unfolding row
map_row n h =
    let back : 0x80 + n - 0x80 ≡ n = omega arith in
    rw (le-ltb (0x80 + n) 0x80 (omega arith), lt-ltb (0x80 + n) 0x90 (omega arith)) (ap (λ (k : ℕ). rows.Map (size.Here k)) back)

-- a first byte and a number in a field behind it
unsigned_field : (b : ℕ) (w : Wide) (n : ℕ) → row b ≡ rows.Plain (plain.Unsigned w) → n < limit w → SpellsPlain (headed b (width w) n) (int (pos n))
unsigned_field b w n is h = (plain.Unsigned w, is, (n, field w n h, refl))

small_is : (n : ℕ) → n < 0x80 → cast_signed w8 n ≡ pos n
small_is n h = to_z_pos w8 h

unsigned_spelled : (n : ℕ) → n < 2 ^ 64 → SpellsPlain (unsigned n) (int (pos n))
unfolding unsigned row
unsigned_spelled n h =
    let P : List ℕ → Type 0 = λ x. SpellsPlain x (int (pos n)) in
    by_test P (nat_lt n 0x80) _ _ (λ t. let lt : n < 0x80 = ltb-true n 0x80 t in (plain.Small (cast_signed w8 n), small_row n lt, (refl, ap int (sym (small_is n lt)))))
    (λ f1. by_test P (nat_lt n (2 ^ 8)) _ _ (λ t. unsigned_field 0xcc wide.One n refl (ltb-true n (2 ^ 8) t))
    (λ f2. by_test P (nat_lt n (2 ^ 16)) _ _ (λ t. unsigned_field 0xcd wide.Two n refl (ltb-true n (2 ^ 16) t))
    (λ f3. by_test P (nat_lt n (2 ^ 32)) _ _ (λ t. unsigned_field 0xce wide.Four n refl (ltb-true n (2 ^ 32) t))
    (λ f4. unsigned_field 0xcf wide.Eight n refl h))))

-- the bits of -1 - n
signed_field : (b : ℕ) (w : Wide) (n : ℕ) → row b ≡ rows.Plain (plain.Signed w) → FitsSigned (width w) (negsuc n) → cast_unsigned (width w) (negsuc n) < limit w → SpellsPlain (headed b (width w) (cast_unsigned (width w) (negsuc n))) (int (negsuc n))
signed_field b w n is fits h =
    (plain.Signed w, is, (cast_unsigned (width w) (negsuc n), field w (cast_unsigned (width w) (negsuc n)) h, ap int (sym (to_z-of_z (width w) (negsuc n) fits))))

negative_spelled : (n : ℕ) → n < 2 ^ 63 → SpellsPlain (negative n) (int (negsuc n))
unfolding negative row
negative_spelled n h =
    let P : List ℕ → Type 0 = λ x. SpellsPlain x (int (negsuc n)) in
    by_test P (nat_lt n 32) _ _ (λ t. let lt : n < 32 = ltb-true n 32 t in (plain.Small (cast_signed w8 (cast_unsigned w8 (negsuc n))), high_row (cast_unsigned w8 (negsuc n)) (omega arith), (refl, ap int (sym (to_z-of_z w8 (negsuc n) record { sfits = omega arith })))))
    (λ f1. by_test P (nat_lt n (2 ^ 7)) _ _ (λ t. let lt : n < 2 ^ 7 = ltb-true n (2 ^ 7) t in signed_field 0xd0 wide.One n refl record { sfits = omega arith } (omega arith))
    (λ f2. by_test P (nat_lt n (2 ^ 15)) _ _ (λ t. let lt : n < 2 ^ 15 = ltb-true n (2 ^ 15) t in signed_field 0xd1 wide.Two n refl record { sfits = omega arith } (omega arith))
    (λ f3. by_test P (nat_lt n (2 ^ 31)) _ _ (λ t. let lt : n < 2 ^ 31 = ltb-true n (2 ^ 31) t in signed_field 0xd2 wide.Four n refl record { sfits = omega arith } (omega arith))
    (λ f4. signed_field 0xd3 wide.Eight n refl record { sfits = omega arith } (omega arith)))))

number_spelled : (z : ℤ) → IsNum z → SpellsPlain (number z) (int z)
number_spelled (pos n) h = unsigned_spelled n h
number_spelled (negsuc n) h = negative_spelled n h

-- ---- heads

-- a first byte of this row and the count
record Heads (kind : Size → Row) (bytes : List ℕ) (n : ℕ) : Type 0 where
  first : ℕ
  size : Size
  count : List ℕ
  parts : bytes ≡ first ∷ count
  begins : row first ≡ kind size
  counts : IsLength size count n

here : (kind : Size → Row) (b k n : ℕ) → row b ≡ kind (size.Here k) → n ≡ k → Heads kind (b ∷ []) n
here kind b k n is e = record { first = b; size = size.Here k; count = []; parts = refl; begins = is; counts = (refl, e) }

behind : (kind : Size → Row) (b : ℕ) (w : Wide) (n : ℕ) → row b ≡ kind (size.Field w) → n < limit w → Heads kind (headed b (width w) n) n
behind kind b w n is h = record { first = b; size = size.Field w; count = to_be_bytes (width w) n; parts = refl; begins = is; counts = field w n h }

abbrev of_str : Size → Row
of_str s = rows.Plain (plain.Str s)

abbrev of_bin : Size → Row
of_bin s = rows.Plain (plain.Bin s)

abbrev of_ext : Size → Row
of_ext s = rows.Plain (plain.Ext s)

str_heads : (n : ℕ) → n < 2 ^ 32 → Heads of_str (str_head n) n
unfolding str_head row
str_heads n h =
    let P : List ℕ → Type 0 = λ x. Heads of_str x n in
    by_test P (nat_lt n 32) _ _ (λ t. here of_str (0xa0 + n) n n (str_row n (ltb-true n 32 t)) refl)
    (λ f1. by_test P (nat_lt n (2 ^ 8)) _ _ (λ t. behind of_str 0xd9 wide.One n refl (ltb-true n (2 ^ 8) t))
    (λ f2. by_test P (nat_lt n (2 ^ 16)) _ _ (λ t. behind of_str 0xda wide.Two n refl (ltb-true n (2 ^ 16) t))
    (λ f3. behind of_str 0xdb wide.Four n refl h)))

bin_heads : (n : ℕ) → n < 2 ^ 32 → Heads of_bin (bin_head n) n
unfolding bin_head row
bin_heads n h =
    let P : List ℕ → Type 0 = λ x. Heads of_bin x n in
    by_test P (nat_lt n (2 ^ 8)) _ _ (λ t. behind of_bin 0xc4 wide.One n refl (ltb-true n (2 ^ 8) t))
    (λ f2. by_test P (nat_lt n (2 ^ 16)) _ _ (λ t. behind of_bin 0xc5 wide.Two n refl (ltb-true n (2 ^ 16) t))
    (λ f3. behind of_bin 0xc6 wide.Four n refl h))

same_number : (a b : ℕ) → (a == b) ≡ true → a ≡ b
same_number a b h = grind arith

ext_heads : (n : ℕ) → n < 2 ^ 32 → Heads of_ext (ext_head n) n
unfolding ext_head row
ext_heads n h =
    let P : List ℕ → Type 0 = λ x. Heads of_ext x n in
    by_test P (n == 1) _ _ (λ t. here of_ext 0xd4 1 n refl (same_number n 1 t))
    (λ g1. by_test P (n == 2) _ _ (λ t. here of_ext 0xd5 2 n refl (same_number n 2 t))
    (λ g2. by_test P (n == 4) _ _ (λ t. here of_ext 0xd6 4 n refl (same_number n 4 t))
    (λ g3. by_test P (n == 8) _ _ (λ t. here of_ext 0xd7 8 n refl (same_number n 8 t))
    (λ g4. by_test P (n == 16) _ _ (λ t. here of_ext 0xd8 16 n refl (same_number n 16 t))
    (λ g5. by_test P (nat_lt n (2 ^ 8)) _ _ (λ t. behind of_ext 0xc7 wide.One n refl (ltb-true n (2 ^ 8) t))
    (λ f2. by_test P (nat_lt n (2 ^ 16)) _ _ (λ t. behind of_ext 0xc8 wide.Two n refl (ltb-true n (2 ^ 16) t))
    (λ f3. behind of_ext 0xc9 wide.Four n refl h)))))))

array_heads : (n : ℕ) → n < 2 ^ 32 → Heads rows.Array (array_head n) n
unfolding array_head row
array_heads n h =
    let P : List ℕ → Type 0 = λ x. Heads rows.Array x n in
    by_test P (nat_lt n 16) _ _ (λ t. here rows.Array (0x90 + n) n n (array_row n (ltb-true n 16 t)) refl)
    (λ f2. by_test P (nat_lt n (2 ^ 16)) _ _ (λ t. behind rows.Array 0xdc wide.Two n refl (ltb-true n (2 ^ 16) t))
    (λ f3. behind rows.Array 0xdd wide.Four n refl h))

map_heads : (n : ℕ) → n < 2 ^ 32 → Heads rows.Map (map_head n) n
unfolding map_head row
map_heads n h =
    let P : List ℕ → Type 0 = λ x. Heads rows.Map x n in
    by_test P (nat_lt n 16) _ _ (λ t. here rows.Map (0x80 + n) n n (map_row n (ltb-true n 16 t)) refl)
    (λ f2. by_test P (nat_lt n (2 ^ 16)) _ _ (λ t. behind rows.Map 0xde wide.Two n refl (ltb-true n (2 ^ 16) t))
    (λ f3. behind rows.Map 0xdf wide.Four n refl h))

-- ---- values

opened : (kind : Size → Row) (head rest : List ℕ) (n : ℕ) → Heads kind head n → Opens kind (head ++ rest) n rest
opened kind head rest n h = record { first = h.first; size = h.size; head = h.count; parts = ap (λ (x : List ℕ). x ++ rest) h.parts; begins = h.begins; counts = h.counts }

-- what stands behind the head
with_head : (kind : Size → Plain) (head rest : List ℕ) (n : ℕ) (t : Tree) (h : Heads (λ s. rows.Plain (kind s)) head n) → IsPlain (kind h.size) (h.count ++ rest) t → SpellsPlain (head ++ rest) t
with_head kind head rest n t h is = subst (λ (x : List ℕ). SpellsPlain (x ++ rest) t) (sym h.parts) (kind h.size, h.begins, is)

str_spelled : (s : List ℕ) → IsUtf8 s → length s < 2 ^ 32 → SpellsPlain (str_head (length s) ++ s) (str s)
str_spelled s utf8 h =
    let head = str_heads (length s) h in
    with_head plain.Str (str_head (length s)) s (length s) (str s) head (head.count, s, refl, head.counts, utf8, refl)

bin_spelled : (s : List ℕ) → length s < 2 ^ 32 → SpellsPlain (bin_head (length s) ++ s) (bin s)
bin_spelled s h =
    let head = bin_heads (length s) h in
    with_head plain.Bin (bin_head (length s)) s (length s) (bin s) head (head.count, s, refl, head.counts, refl)

byte_of : (k : ℤ) → FitsSigned w8 k → cast_unsigned w8 k < 2 ^ 8
byte_of (pos n) h = omega (arith, h.sfits)
byte_of (negsuc n) h = omega (arith, h.sfits)

ext_spelled : (k : ℤ) (s : List ℕ) → FitsSigned w8 k → length s < 2 ^ 32 → SpellsPlain (ext_head (length s) ++ (cast_unsigned w8 k ∷ s)) (ext k s)
ext_spelled k s fits h =
    let head = ext_heads (length s) h in
    let kind : IsField w8 (cast_unsigned w8 k ∷ []) (cast_unsigned w8 k) = record { len = refl; number = omega (arith, byte_of k fits) } in
    with_head plain.Ext (ext_head (length s)) (cast_unsigned w8 k ∷ s) (length s) (ext k s) head
    (head.count, cast_unsigned w8 k ∷ [], s, cast_unsigned w8 k, refl, head.counts, kind, ap (λ (z : ℤ). ext z s) (sym (to_z-of_z w8 k fits)))

bool_spelled : (b : Bool) → SpellsPlain (written (bool b)) (bool b)
unfolding row
bool_spelled true = (plain.Bool true, refl, (refl, refl))
bool_spelled false = (plain.Bool false, refl, (refl, refl))

mutual
  unfolding row

  pub spelled : (t : Tree) → IsWellFormed t → IsShort t → Spells (written t) t
  spelled nil f s = (plain.Nil, refl, (refl, refl))
  spelled (bool b) f s = bool_spelled b
  spelled (int z) f s = number_spelled z f
  spelled (bits32 n) f s = (plain.Bits32, refl, (n, field wide.Four n f, refl))
  spelled (bits64 n) f s = (plain.Bits64, refl, (n, field wide.Eight n f, refl))
  spelled (str x) f s = str_spelled x f s
  spelled (bin x) f s = bin_spelled x s
  spelled (ext k x) f s = ext_spelled k x f s
  spelled (array ts) f s = (written_items ts, opened rows.Array (array_head (count ts)) (written_items ts) (count ts) (array_heads (count ts) s.0), items_spelled ts f s.1)
  spelled (dict ps) f s = (written_pairs ps, opened rows.Map (map_head (count_of_pairs ps)) (written_pairs ps) (count_of_pairs ps) (map_heads (count_of_pairs ps) s.0), pairs_spelled ps f s.1)

  pub items_spelled : (ts : Trees) → AreWellFormed ts → AreShort ts → SpellsItems (written_items ts) ts
  items_spelled none f s = refl
  items_spelled (item t ts) f s = (written t, written_items ts, refl, spelled t f.0 s.0, items_spelled ts f.1 s.1)

  pub pairs_spelled : (ps : Pairs) → PairsAreWellFormed ps → PairsAreShort ps → SpellsPairs (written_pairs ps) ps
  pairs_spelled no_pairs f s = refl
  pairs_spelled (pair k v ps) f s = (written k, written v, written_pairs ps, refl, spelled k f.0 s.0, spelled v f.1 s.1, pairs_spelled ps f.2 s.2)

-- No spelling of a tree is shorter than its written form.
use Rattle.std.proofs.Common.{◌≡◌, ℕ, zero, suc, ◌-◌, ◌<◌, ◌≤◌, ◌^◌, Bool, true, false, true≢false, not, List, [], ◌∷◌, ◌++◌, length, refl, sym, ap, subst, lit≤, arith}
use Rattle.std.specs.Prelude.{ℤ, pos, nat_lt, nat_le, ◌==◌, ◌&&◌, if◌then◌else◌, slice_index}
use Rattle.std.specs.Int.{w8, byte_len, from_be_bytes, cast_signed, cast_unsigned}
use Rattle.std.proofs.lemmas.Bool.{lt-ltb}
use Rattle.std.proofs.lemmas.List.{length-append}
use Rattle.bm_value.specs.declared.row.Wide.{Wide}
use Rattle.bm_value.specs.declared.row.Wide.TheVariants as wide
use Rattle.bm_value.specs.declared.row.Size.{Size}
use Rattle.bm_value.specs.declared.row.Size.TheVariants as size
use Rattle.bm_value.specs.declared.row.Plain.{Plain}
use Rattle.bm_value.specs.declared.row.Plain.TheVariants as plain
use Rattle.bm_value.specs.declared.row.Row.{Row}
use Rattle.bm_value.specs.declared.row.Row.TheVariants as rows
use Rattle.bm_value.specs.Row.{width, limit, row}
use Rattle.bm_value.specs.Tree.{Tree, nil, bool, int, bits32, bits64, str, bin, array, dict, ext, Trees, none, item, Pairs, no_pairs, pair, count, count_of_pairs}
use Rattle.bm_value.specs.Spelling.{IsField, IsLength, IsPlain, SpellsPlain, Spells, SpellsItems, SpellsPairs}
use Rattle.bm_value.specs.Writing.{unsigned, negative, number, str_head, bin_head, ext_head, array_head, map_head, written, written_items, written_pairs}
use Rattle.bm_value.specs.Laws.{AreBytes, NoneIsShorter}

-- ---- bytes

bytes_front : (xs ys : List ℕ) → AreBytes (xs ++ ys) → AreBytes xs
bytes_front [] ys h = tt
bytes_front (x ∷ xs) ys h = (h.0, bytes_front xs ys h.1)

bytes_back : (xs ys : List ℕ) → AreBytes (xs ++ ys) → AreBytes ys
bytes_back [] ys h = h
bytes_back (x ∷ xs) ys h = bytes_back xs ys h.1

byte_at : (bytes : List ℕ) (i : ℕ) → AreBytes bytes → slice_index bytes i < 2 ^ 8
byte_at [] i h = omega arith
byte_at (x ∷ xs) zero h = h.0
byte_at (x ∷ xs) (suc i) h = byte_at xs i h.1

field_below : (w : Wide) (bytes : List ℕ) → AreBytes bytes → from_be_bytes (width w) bytes < limit w
field_below wide.One bytes h = byte_at bytes 0 h
field_below wide.Two bytes h = omega (arith, byte_at bytes 0 h, byte_at bytes 1 h)
field_below wide.Four bytes h = omega (arith, byte_at bytes 0 h, byte_at bytes 1 h, byte_at bytes 2 h, byte_at bytes 3 h)
field_below wide.Eight bytes h = omega (arith, byte_at bytes 0 h, byte_at bytes 1 h, byte_at bytes 2 h, byte_at bytes 3 h, byte_at bytes 4 h, byte_at bytes 5 h, byte_at bytes 6 h, byte_at bytes 7 h)

number_below : (w : Wide) (bytes : List ℕ) (n : ℕ) → AreBytes bytes → IsField (width w) bytes n → n < limit w
number_below w bytes n h is = subst (λ (k : ℕ). k < limit w) is.number (field_below w bytes h)

-- ---- lengths, by the tests of the written form

by_test : (P : List ℕ → Type 0) (b : Bool) (x y : List ℕ) → (b ≡ true → P x) → (b ≡ false → P y) → P (if b then x else y)
by_test P true x y f g = f refl
by_test P false x y f g = g refl

not_below : (a b : ℕ) → nat_lt a b ≡ false → b ≤ a
not_below a b h = grind (arith, lt-ltb)

abbrev Room : ℕ → List ℕ → Type 0
Room k x = length x ≤ k

unsigned_length : (w : Wide) (n : ℕ) → n < limit w → length (unsigned n) ≤ suc (byte_len (width w))
unfolding unsigned
unsigned_length wide.One n h =
    by_test (Room 2) (nat_lt n 0x80) _ _ (λ t. lit≤ tt) (λ f1. by_test (Room 2) (nat_lt n (2 ^ 8)) _ _ (λ t. lit≤ tt) (λ f2. let above = not_below n (2 ^ 8) f2 in absurd (omega arith)))
unsigned_length wide.Two n h =
    by_test (Room 3) (nat_lt n 0x80) _ _ (λ t. lit≤ tt) (λ f1. by_test (Room 3) (nat_lt n (2 ^ 8)) _ _ (λ t. lit≤ tt) (λ f2. by_test (Room 3) (nat_lt n (2 ^ 16)) _ _ (λ t. lit≤ tt) (λ f3. let above = not_below n (2 ^ 16) f3 in absurd (omega arith))))
unsigned_length wide.Four n h =
    by_test (Room 5) (nat_lt n 0x80) _ _ (λ t. lit≤ tt) (λ f1. by_test (Room 5) (nat_lt n (2 ^ 8)) _ _ (λ t. lit≤ tt) (λ f2. by_test (Room 5) (nat_lt n (2 ^ 16)) _ _ (λ t. lit≤ tt)
    (λ f3. by_test (Room 5) (nat_lt n (2 ^ 32)) _ _ (λ t. lit≤ tt) (λ f4. let above = not_below n (2 ^ 32) f4 in absurd (omega arith)))))
unsigned_length wide.Eight n h =
    by_test (Room 9) (nat_lt n 0x80) _ _ (λ t. lit≤ tt) (λ f1. by_test (Room 9) (nat_lt n (2 ^ 8)) _ _ (λ t. lit≤ tt) (λ f2. by_test (Room 9) (nat_lt n (2 ^ 16)) _ _ (λ t. lit≤ tt)
    (λ f3. by_test (Room 9) (nat_lt n (2 ^ 32)) _ _ (λ t. lit≤ tt) (λ f4. lit≤ tt))))

-- half of what a field of this width has
abbrev half : Wide → ℕ
half wide.One = 2 ^ 7
half wide.Two = 2 ^ 15
half wide.Four = 2 ^ 31
half wide.Eight = 2 ^ 63

negative_length : (w : Wide) (n : ℕ) → n < half w → length (negative n) ≤ suc (byte_len (width w))
unfolding negative
negative_length wide.One n h =
    by_test (Room 2) (nat_lt n 32) _ _ (λ t. lit≤ tt) (λ f1. by_test (Room 2) (nat_lt n (2 ^ 7)) _ _ (λ t. lit≤ tt) (λ f2. let above = not_below n (2 ^ 7) f2 in absurd (omega arith)))
negative_length wide.Two n h =
    by_test (Room 3) (nat_lt n 32) _ _ (λ t. lit≤ tt) (λ f1. by_test (Room 3) (nat_lt n (2 ^ 7)) _ _ (λ t. lit≤ tt) (λ f2. by_test (Room 3) (nat_lt n (2 ^ 15)) _ _ (λ t. lit≤ tt) (λ f3. let above = not_below n (2 ^ 15) f3 in absurd (omega arith))))
negative_length wide.Four n h =
    by_test (Room 5) (nat_lt n 32) _ _ (λ t. lit≤ tt) (λ f1. by_test (Room 5) (nat_lt n (2 ^ 7)) _ _ (λ t. lit≤ tt) (λ f2. by_test (Room 5) (nat_lt n (2 ^ 15)) _ _ (λ t. lit≤ tt)
    (λ f3. by_test (Room 5) (nat_lt n (2 ^ 31)) _ _ (λ t. lit≤ tt) (λ f4. let above = not_below n (2 ^ 31) f4 in absurd (omega arith)))))
negative_length wide.Eight n h =
    by_test (Room 9) (nat_lt n 32) _ _ (λ t. lit≤ tt) (λ f1. by_test (Room 9) (nat_lt n (2 ^ 7)) _ _ (λ t. lit≤ tt) (λ f2. by_test (Room 9) (nat_lt n (2 ^ 15)) _ _ (λ t. lit≤ tt)
    (λ f3. by_test (Room 9) (nat_lt n (2 ^ 31)) _ _ (λ t. lit≤ tt) (λ f4. lit≤ tt))))

by_sign : (P : ℤ → Type 0) (b : Bool) (x y : ℤ) → (b ≡ true → P x) → (b ≡ false → P y) → P (mir.Val.sel b x y)
by_sign P true x y f g = f refl
by_sign P false x y f g = g refl

signed_length : (w : Wide) (n : ℕ) → n < limit w → length (number (cast_signed (width w) n)) ≤ suc (byte_len (width w))
signed_length wide.One n h =
    by_sign (λ z. length (number z) ≤ 2) (nat_lt n (2 ^ 7)) _ _ (λ t. unsigned_length wide.One n h) (λ f. let above = not_below n (2 ^ 7) f in negative_length wide.One (2 ^ 8 - suc n) (omega arith))
signed_length wide.Two n h =
    by_sign (λ z. length (number z) ≤ 3) (nat_lt n (2 ^ 15)) _ _ (λ t. unsigned_length wide.Two n h) (λ f. let above = not_below n (2 ^ 15) f in negative_length wide.Two (2 ^ 16 - suc n) (omega arith))
signed_length wide.Four n h =
    by_sign (λ z. length (number z) ≤ 5) (nat_lt n (2 ^ 31)) _ _ (λ t. unsigned_length wide.Four n h) (λ f. let above = not_below n (2 ^ 31) f in negative_length wide.Four (2 ^ 32 - suc n) (omega arith))
signed_length wide.Eight n h =
    by_sign (λ z. length (number z) ≤ 9) (nat_lt n (2 ^ 63)) _ _ (λ t. unsigned_length wide.Eight n h) (λ f. let above = not_below n (2 ^ 63) f in negative_length wide.Eight (2 ^ 64 - suc n) (omega arith))

-- ---- heads

abbrev is_one : Wide → Bool
is_one wide.One = true
is_one wide.Two = false
is_one wide.Four = false
is_one wide.Eight = false

abbrev HeadFits : (ℕ → List ℕ) → Type 0
HeadFits head = (w : Wide) (n : ℕ) → n < limit w → length (head n) ≤ suc (byte_len (width w))

str_length : HeadFits str_head
unfolding str_head
str_length wide.One n h =
    by_test (Room 2) (nat_lt n 32) _ _ (λ t. lit≤ tt) (λ f1. by_test (Room 2) (nat_lt n (2 ^ 8)) _ _ (λ t. lit≤ tt) (λ f2. let above = not_below n (2 ^ 8) f2 in absurd (omega arith)))
str_length wide.Two n h =
    by_test (Room 3) (nat_lt n 32) _ _ (λ t. lit≤ tt) (λ f1. by_test (Room 3) (nat_lt n (2 ^ 8)) _ _ (λ t. lit≤ tt) (λ f2. by_test (Room 3) (nat_lt n (2 ^ 16)) _ _ (λ t. lit≤ tt) (λ f3. let above = not_below n (2 ^ 16) f3 in absurd (omega arith))))
str_length wide.Four n h =
    by_test (Room 5) (nat_lt n 32) _ _ (λ t. lit≤ tt) (λ f1. by_test (Room 5) (nat_lt n (2 ^ 8)) _ _ (λ t. lit≤ tt) (λ f2. by_test (Room 5) (nat_lt n (2 ^ 16)) _ _ (λ t. lit≤ tt) (λ f3. lit≤ tt)))
str_length wide.Eight n h =
    by_test (Room 9) (nat_lt n 32) _ _ (λ t. lit≤ tt) (λ f1. by_test (Room 9) (nat_lt n (2 ^ 8)) _ _ (λ t. lit≤ tt) (λ f2. by_test (Room 9) (nat_lt n (2 ^ 16)) _ _ (λ t. lit≤ tt) (λ f3. lit≤ tt)))

bin_length : HeadFits bin_head
unfolding bin_head
bin_length wide.One n h =
    by_test (Room 2) (nat_lt n (2 ^ 8)) _ _ (λ t. lit≤ tt) (λ f2. let above = not_below n (2 ^ 8) f2 in absurd (omega arith))
bin_length wide.Two n h =
    by_test (Room 3) (nat_lt n (2 ^ 8)) _ _ (λ t. lit≤ tt) (λ f2. by_test (Room 3) (nat_lt n (2 ^ 16)) _ _ (λ t. lit≤ tt) (λ f3. let above = not_below n (2 ^ 16) f3 in absurd (omega arith)))
bin_length wide.Four n h =
    by_test (Room 5) (nat_lt n (2 ^ 8)) _ _ (λ t. lit≤ tt) (λ f2. by_test (Room 5) (nat_lt n (2 ^ 16)) _ _ (λ t. lit≤ tt) (λ f3. lit≤ tt))
bin_length wide.Eight n h =
    by_test (Room 9) (nat_lt n (2 ^ 8)) _ _ (λ t. lit≤ tt) (λ f2. by_test (Room 9) (nat_lt n (2 ^ 16)) _ _ (λ t. lit≤ tt) (λ f3. lit≤ tt))

-- an ext's five short heads
ext_by_test : (k : ℕ) (n : ℕ) (rest : List ℕ) → 1 ≤ k → Room k rest
    → Room k (if n == 1 then 0xd4 ∷ [] else if n == 2 then 0xd5 ∷ [] else if n == 4 then 0xd6 ∷ [] else if n == 8 then 0xd7 ∷ [] else if n == 16 then 0xd8 ∷ [] else rest)
ext_by_test k n rest one h =
    by_test (Room k) (n == 1) _ _ (λ t. one) (λ f. by_test (Room k) (n == 2) _ _ (λ t. one) (λ f. by_test (Room k) (n == 4) _ _ (λ t. one) (λ f. by_test (Room k) (n == 8) _ _ (λ t. one) (λ f. by_test (Room k) (n == 16) _ _ (λ t. one) (λ f. h)))))

ext_length : HeadFits ext_head
unfolding ext_head
ext_length wide.One n h =
    ext_by_test 2 n _ (lit≤ tt) (by_test (Room 2) (nat_lt n (2 ^ 8)) _ _ (λ t. lit≤ tt) (λ f2. let above = not_below n (2 ^ 8) f2 in absurd (omega arith)))
ext_length wide.Two n h =
    ext_by_test 3 n _ (lit≤ tt) (by_test (Room 3) (nat_lt n (2 ^ 8)) _ _ (λ t. lit≤ tt) (λ f2. by_test (Room 3) (nat_lt n (2 ^ 16)) _ _ (λ t. lit≤ tt) (λ f3. let above = not_below n (2 ^ 16) f3 in absurd (omega arith))))
ext_length wide.Four n h =
    ext_by_test 5 n _ (lit≤ tt) (by_test (Room 5) (nat_lt n (2 ^ 8)) _ _ (λ t. lit≤ tt) (λ f2. by_test (Room 5) (nat_lt n (2 ^ 16)) _ _ (λ t. lit≤ tt) (λ f3. lit≤ tt)))
ext_length wide.Eight n h =
    ext_by_test 9 n _ (lit≤ tt) (by_test (Room 9) (nat_lt n (2 ^ 8)) _ _ (λ t. lit≤ tt) (λ f2. by_test (Room 9) (nat_lt n (2 ^ 16)) _ _ (λ t. lit≤ tt) (λ f3. lit≤ tt)))

-- arrays and maps have no field of one byte
abbrev WideHeadFits : (ℕ → List ℕ) → Type 0
WideHeadFits head = (w : Wide) (n : ℕ) → is_one w ≡ false → n < limit w → length (head n) ≤ suc (byte_len (width w))

array_length : WideHeadFits array_head
unfolding array_head
array_length wide.One n one h = absurd (true≢false one)
array_length wide.Two n one h =
    by_test (Room 3) (nat_lt n 16) _ _ (λ t. lit≤ tt) (λ f2. by_test (Room 3) (nat_lt n (2 ^ 16)) _ _ (λ t. lit≤ tt) (λ f3. let above = not_below n (2 ^ 16) f3 in absurd (omega arith)))
array_length wide.Four n one h = by_test (Room 5) (nat_lt n 16) _ _ (λ t. lit≤ tt) (λ f2. by_test (Room 5) (nat_lt n (2 ^ 16)) _ _ (λ t. lit≤ tt) (λ f3. lit≤ tt))
array_length wide.Eight n one h = by_test (Room 9) (nat_lt n 16) _ _ (λ t. lit≤ tt) (λ f2. by_test (Room 9) (nat_lt n (2 ^ 16)) _ _ (λ t. lit≤ tt) (λ f3. lit≤ tt))

map_length : WideHeadFits map_head
unfolding map_head
map_length wide.One n one h = absurd (true≢false one)
map_length wide.Two n one h =
    by_test (Room 3) (nat_lt n 16) _ _ (λ t. lit≤ tt) (λ f2. by_test (Room 3) (nat_lt n (2 ^ 16)) _ _ (λ t. lit≤ tt) (λ f3. let above = not_below n (2 ^ 16) f3 in absurd (omega arith)))
map_length wide.Four n one h = by_test (Room 5) (nat_lt n 16) _ _ (λ t. lit≤ tt) (λ f2. by_test (Room 5) (nat_lt n (2 ^ 16)) _ _ (λ t. lit≤ tt) (λ f3. lit≤ tt))
map_length wide.Eight n one h = by_test (Room 9) (nat_lt n 16) _ _ (λ t. lit≤ tt) (λ f2. by_test (Room 9) (nat_lt n (2 ^ 16)) _ _ (λ t. lit≤ tt) (λ f3. lit≤ tt))

-- ---- rows

-- A number or a length that a first byte holds is written as one byte.
abbrev holds : (ℕ → List ℕ) → Size → Bool
holds head (size.Here k) = nat_le (length (head k)) 1
holds head (size.Field w) = true

abbrev is_tight : Row → Bool
is_tight (rows.Plain (plain.Small z)) = nat_le (length (number z)) 1
is_tight (rows.Plain (plain.Str s)) = holds str_head s
is_tight (rows.Plain (plain.Bin s)) = holds bin_head s
is_tight (rows.Plain (plain.Ext s)) = holds ext_head s
is_tight (rows.Array (size.Field w)) = not (is_one w)
is_tight (rows.Array s) = holds array_head s
is_tight (rows.Map (size.Field w)) = not (is_one w)
is_tight (rows.Map s) = holds map_head s
is_tight r = true

abbrev are_tight : ℕ → Bool
are_tight zero = true
are_tight (suc n) = is_tight (row n) && are_tight n

all_tight : are_tight 256 ≡ true
unfolding row unsigned negative str_head bin_head ext_head array_head map_head
all_tight = refl

both : (a b : Bool) → (a && b) ≡ true → (a ≡ true) × (b ≡ true)
both true b h = (refl, h)
both false b h = absurd (true≢false (sym h))

tight_below : (n b : ℕ) → are_tight n ≡ true → b < n → is_tight (row b) ≡ true
tight_below zero b h lt = absurd (omega arith)
tight_below (suc n) b h lt =
    elim (nat_le n b) as (λ v. nat_le n b ≡ v → is_tight (row b) ≡ true) [
      | true ↦ λ e. let same : n ≡ b = grind arith in subst (λ k. is_tight (row k) ≡ true) same (both (is_tight (row n)) (are_tight n) h).0
      | false ↦ λ e. tight_below n b (both (is_tight (row n)) (are_tight n) h).1 (grind arith)
    ] refl

tight : (b : ℕ) (r : Row) → b < 2 ^ 8 → row b ≡ r → is_tight r ≡ true
tight b r lt is = subst (λ x. is_tight x ≡ true) is (tight_below 256 b all_tight lt)

one_at_most : (n : ℕ) → nat_le n 1 ≡ true → n ≤ 1
one_at_most n h = grind arith

head_fits : (head : ℕ → List ℕ) → HeadFits head → (s : Size) (field : List ℕ) (n : ℕ) → holds head s ≡ true → AreBytes field → IsLength s field n → length (head n) ≤ suc (length field)
head_fits head fits (size.Here k) field n one h is =
    let len : length (head n) ≤ 1 = subst (λ j. length (head j) ≤ 1) (sym is.1) (one_at_most (length (head k)) one) in omega arith
head_fits head fits (size.Field w) field n one h is =
    let len = fits w n (number_below w field n h is) in omega (arith, is.len)

not_one : (w : Wide) → not (is_one w) ≡ true → is_one w ≡ false
not_one wide.One h = sym h
not_one wide.Two h = refl
not_one wide.Four h = refl
not_one wide.Eight h = refl

array_fits : (b : ℕ) (s : Size) (field : List ℕ) (n : ℕ) → b < 2 ^ 8 → row b ≡ rows.Array s → AreBytes field → IsLength s field n → length (array_head n) ≤ suc (length field)
array_fits b (size.Here k) field n lt is h len =
    let one : length (array_head n) ≤ 1 = subst (λ j. length (array_head j) ≤ 1) (sym len.1) (one_at_most (length (array_head k)) (tight b (rows.Array (size.Here k)) lt is)) in omega arith
array_fits b (size.Field w) field n lt is h len =
    let wide = array_length w n (not_one w (tight b (rows.Array (size.Field w)) lt is)) (number_below w field n h len) in omega (arith, len.len)

map_fits : (b : ℕ) (s : Size) (field : List ℕ) (n : ℕ) → b < 2 ^ 8 → row b ≡ rows.Map s → AreBytes field → IsLength s field n → length (map_head n) ≤ suc (length field)
map_fits b (size.Here k) field n lt is h len =
    let one : length (map_head n) ≤ 1 = subst (λ j. length (map_head j) ≤ 1) (sym len.1) (one_at_most (length (map_head k)) (tight b (rows.Map (size.Here k)) lt is)) in omega arith
map_fits b (size.Field w) field n lt is h len =
    let wide = map_length w n (not_one w (tight b (rows.Map (size.Field w)) lt is)) (number_below w field n h len) in omega (arith, len.len)

-- ---- values

as_long : (t u : Tree) (k : ℕ) → t ≡ u → length (written u) ≤ k → length (written t) ≤ k
as_long t u k e h = subst (λ x. length (written x) ≤ k) (sym e) h

-- a head and what stands behind it, beside a field and the same
heads_and : (head field mid text : List ℕ) (bytes : List ℕ) → length head ≤ suc (length field) → bytes ≡ field ++ (mid ++ text) → length (head ++ (mid ++ text)) ≤ suc (length bytes)
heads_and head field mid text bytes le e =
    omega (arith, length-append head (mid ++ text), ap length e, length-append field (mid ++ text))

plain_shortest : (p : Plain) (b : ℕ) (bytes : List ℕ) (t : Tree) → b < 2 ^ 8 → AreBytes bytes → row b ≡ rows.Plain p → IsPlain p bytes t → length (written t) ≤ suc (length bytes)
plain_shortest plain.Nil b bytes t lt all is h = as_long t nil _ h.1 (omega arith)
plain_shortest (plain.Bool v) b bytes t lt all is h = as_long t (bool v) _ h.1 (omega arith)
plain_shortest (plain.Small z) b bytes t lt all is h = as_long t (int z) _ h.1 (omega (arith, one_at_most (length (number z)) (tight b (rows.Plain (plain.Small z)) lt is)))
plain_shortest (plain.Unsigned w) b bytes t lt all is h = as_long t (int (pos h.0)) _ h.2 (omega (arith, unsigned_length w h.0 (number_below w bytes h.0 all h.1), h.1.len))
plain_shortest (plain.Signed w) b bytes t lt all is h = as_long t (int (cast_signed (width w) h.0)) _ h.2 (omega (arith, signed_length w h.0 (number_below w bytes h.0 all h.1), h.1.len))
plain_shortest plain.Bits32 b bytes t lt all is h = as_long t (bits32 h.0) _ h.2 (omega (arith, h.1.len))
plain_shortest plain.Bits64 b bytes t lt all is h = as_long t (bits64 h.0) _ h.2 (omega (arith, h.1.len))
plain_shortest (plain.Str s) b bytes t lt all is h =
    let field = bytes_front h.0 h.1 (subst AreBytes h.2 all) in
    as_long t (str h.1) _ h.5 (heads_and (str_head (length h.1)) h.0 [] h.1 bytes (head_fits str_head str_length s h.0 (length h.1) (tight b (rows.Plain (plain.Str s)) lt is) field h.3) h.2)
plain_shortest (plain.Bin s) b bytes t lt all is h =
    let field = bytes_front h.0 h.1 (subst AreBytes h.2 all) in
    as_long t (bin h.1) _ h.4 (heads_and (bin_head (length h.1)) h.0 [] h.1 bytes (head_fits bin_head bin_length s h.0 (length h.1) (tight b (rows.Plain (plain.Bin s)) lt is) field h.3) h.2)
plain_shortest (plain.Ext s) b bytes t lt all is h =
    let field = bytes_front h.0 (h.1 ++ h.2) (subst AreBytes h.4 all) in
    let le = head_fits ext_head ext_length s h.0 (length h.2) (tight b (rows.Plain (plain.Ext s)) lt is) field h.5 in
    as_long t (ext (cast_signed w8 h.3) h.2) _ h.7 (omega (arith, le, length-append (ext_head (length h.2)) (cast_unsigned w8 (cast_signed w8 h.3) ∷ h.2), ap length h.4, length-append h.0 (h.1 ++ h.2), length-append h.1 h.2, h.6.len))

spelled_plain : (bytes : List ℕ) (t : Tree) → AreBytes bytes → SpellsPlain bytes t → length (written t) ≤ length bytes
spelled_plain [] t all h = absurd h
spelled_plain (b ∷ bytes) t all h = plain_shortest h.0 b bytes t all.0 all.1 h.1 h.2

-- a head with the values behind it
opened_shortest : (head values bytes field rest : List ℕ) (b : ℕ) → bytes ≡ b ∷ (field ++ rest) → length head ≤ suc (length field) → length values ≤ length rest → length (head ++ values) ≤ length bytes
opened_shortest head values bytes field rest b e le more = omega (arith, ap length e, length-append field rest, length-append head values)

mutual
  pub shortest : (t : Tree) (bytes : List ℕ) → AreBytes bytes → Spells bytes t → length (written t) ≤ length bytes
  shortest nil bytes all s = spelled_plain bytes nil all s
  shortest (bool b) bytes all s = spelled_plain bytes (bool b) all s
  shortest (int z) bytes all s = spelled_plain bytes (int z) all s
  shortest (bits32 n) bytes all s = spelled_plain bytes (bits32 n) all s
  shortest (bits64 n) bytes all s = spelled_plain bytes (bits64 n) all s
  shortest (str x) bytes all s = spelled_plain bytes (str x) all s
  shortest (bin x) bytes all s = spelled_plain bytes (bin x) all s
  shortest (ext k x) bytes all s = spelled_plain bytes (ext k x) all s
  shortest (array ts) bytes all s =
      let whole = subst AreBytes s.1.parts all in
      opened_shortest (array_head (count ts)) (written_items ts) bytes s.1.head s.0 s.1.first s.1.parts
      (array_fits s.1.first s.1.size s.1.head (count ts) whole.0 s.1.begins (bytes_front s.1.head s.0 whole.1) s.1.counts)
      (items_shortest ts s.0 (bytes_back s.1.head s.0 whole.1) s.2)
  shortest (dict ps) bytes all s =
      let whole = subst AreBytes s.1.parts all in
      opened_shortest (map_head (count_of_pairs ps)) (written_pairs ps) bytes s.1.head s.0 s.1.first s.1.parts
      (map_fits s.1.first s.1.size s.1.head (count_of_pairs ps) whole.0 s.1.begins (bytes_front s.1.head s.0 whole.1) s.1.counts)
      (pairs_shortest ps s.0 (bytes_back s.1.head s.0 whole.1) s.2)

  items_shortest : (ts : Trees) (bytes : List ℕ) → AreBytes bytes → SpellsItems bytes ts → length (written_items ts) ≤ length bytes
  items_shortest none bytes all s = omega arith
  items_shortest (item t ts) bytes all s =
      let whole = subst AreBytes s.2 all in
      omega (arith, ap length s.2, length-append s.0 s.1, length-append (written t) (written_items ts), shortest t s.0 (bytes_front s.0 s.1 whole) s.3, items_shortest ts s.1 (bytes_back s.0 s.1 whole) s.4)

  pairs_shortest : (ps : Pairs) (bytes : List ℕ) → AreBytes bytes → SpellsPairs bytes ps → length (written_pairs ps) ≤ length bytes
  pairs_shortest no_pairs bytes all s = omega arith
  pairs_shortest (pair k v ps) bytes all s =
      let whole = subst AreBytes s.3 all in
      let behind = bytes_back s.0 (s.1 ++ s.2) whole in
      omega (
        arith,
        ap length s.3,
        length-append s.0 (s.1 ++ s.2),
        length-append s.1 s.2,
        length-append (written k) (written v ++ written_pairs ps),
        length-append (written v) (written_pairs ps),
        shortest k s.0 (bytes_front s.0 (s.1 ++ s.2) whole) s.4,
        shortest v s.1 (bytes_front s.1 s.2 behind) s.5,
        pairs_shortest ps s.2 (bytes_back s.1 s.2 behind) s.6,
      )

pub none_is_shorter : NoneIsShorter
none_is_shorter bytes t all s = shortest t bytes all s

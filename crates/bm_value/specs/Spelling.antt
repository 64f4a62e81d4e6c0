-- Which bytes spell a tree, and where bytes that begin with no tree go wrong (MessagePack
-- specification).
use Rattle.std.specs.Prelude.{◌≡◌, ℕ, zero, suc, ◌+◌, ◌-◌, ◌*◌, ◌<◌, ◌≤◌, ◌⊎◌, pos, List, [], ◌∷◌, ◌++◌, length}
use Rattle.std.specs.Int.{Width, w8, w32, w64, byte_len, from_be_bytes, cast_signed}
use Rattle.std.specs.Str.{IsUtf8}
use Rattle.bm_value.specs.declared.fault.DecodeError.{DecodeError}
use Rattle.bm_value.specs.declared.fault.DecodeError.TheVariants.{Truncated, Reserved, BadUtf8, TooDeep}
use Rattle.bm_value.specs.declared.row.Size.{Size}
use Rattle.bm_value.specs.declared.row.Size.TheVariants as size
use Rattle.bm_value.specs.declared.row.Plain.{Plain}
use Rattle.bm_value.specs.declared.row.Plain.TheVariants as plain
use Rattle.bm_value.specs.declared.row.Row.{Row}
use Rattle.bm_value.specs.declared.row.Row.TheVariants as rows
use Rattle.bm_value.specs.Row.{width, row}
use Rattle.bm_value.specs.Tree.{Tree, nil, bool, int, bits32, bits64, str, bin, array, dict, ext, Trees, none, item, Pairs, no_pairs, pair, count, count_of_pairs, depth_of_items}

-- these bytes are the number, the highest byte first
pub record IsField (w : Width) (bytes : List ℕ) (n : ℕ) : Type 0 where
  pub len : length bytes ≡ byte_len w
  pub number : from_be_bytes w bytes ≡ n

-- these bytes, behind the first byte, are the length or the count
abbrev pub IsLength : Size → List ℕ → ℕ → Type 0
IsLength (size.Here k) bytes n = (bytes ≡ []) × (n ≡ k)
IsLength (size.Field w) bytes n = IsField (width w) bytes n

-- What stands behind the first byte of a value with no value inside. It is nothing, a number's
-- field, or a length, an ext's type and so many bytes. A str's bytes are UTF-8.
abbrev pub IsPlain : Plain → List ℕ → Tree → Type 0
IsPlain plain.Nil bytes t = (bytes ≡ []) × (t ≡ nil)
IsPlain (plain.Bool b) bytes t = (bytes ≡ []) × (t ≡ bool b)
IsPlain (plain.Small z) bytes t = (bytes ≡ []) × (t ≡ int z)
IsPlain (plain.Unsigned w) bytes t = (n : ℕ) × IsField (width w) bytes n × (t ≡ int (pos n))
IsPlain (plain.Signed w) bytes t = (n : ℕ) × IsField (width w) bytes n
    × (t ≡ int (cast_signed (width w) n))
IsPlain plain.Bits32 bytes t = (n : ℕ) × IsField w32 bytes n × (t ≡ bits32 n)
IsPlain plain.Bits64 bytes t = (n : ℕ) × IsField w64 bytes n × (t ≡ bits64 n)
IsPlain (plain.Str s) bytes t = (head : List ℕ) × (text : List ℕ) × (bytes ≡ head ++ text)
    × IsLength s head (length text) × IsUtf8 text × (t ≡ str text)
IsPlain (plain.Bin s) bytes t = (head : List ℕ) × (text : List ℕ) × (bytes ≡ head ++ text)
    × IsLength s head (length text) × (t ≡ bin text)
IsPlain (plain.Ext s) bytes t = (head : List ℕ) × (kind : List ℕ) × (text : List ℕ) × (k : ℕ)
    × (bytes ≡ head ++ (kind ++ text)) × IsLength s head (length text)
    × IsField w8 kind k × (t ≡ ext (cast_signed w8 k) text)

-- a first byte of a value with no value inside, and what belongs behind it
abbrev pub SpellsPlain : List ℕ → Tree → Type 0
SpellsPlain [] t = ⊥
SpellsPlain (b ∷ bytes) t = (p : Plain) × (row b ≡ rows.Plain p) × IsPlain p bytes t

-- a first byte of this row, a count of n, and the values that are counted
pub record Opens (kind : Size → Row) (bytes : List ℕ) (n : ℕ) (rest : List ℕ) : Type 0 where
  pub first : ℕ
  pub size : Size
  pub head : List ℕ
  pub parts : bytes ≡ first ∷ (head ++ rest)
  pub begins : row first ≡ kind size
  pub counts : IsLength size head n

-- The bytes spell the tree.
abbrev mutual
  pub Spells : List ℕ → Tree → Type 0
  Spells bytes nil = SpellsPlain bytes nil
  Spells bytes (bool b) = SpellsPlain bytes (bool b)
  Spells bytes (int z) = SpellsPlain bytes (int z)
  Spells bytes (bits32 n) = SpellsPlain bytes (bits32 n)
  Spells bytes (bits64 n) = SpellsPlain bytes (bits64 n)
  Spells bytes (str s) = SpellsPlain bytes (str s)
  Spells bytes (bin s) = SpellsPlain bytes (bin s)
  Spells bytes (ext k s) = SpellsPlain bytes (ext k s)
  Spells bytes (array ts) = (rest : List ℕ) × Opens rows.Array bytes (count ts) rest
      × SpellsItems rest ts
  Spells bytes (dict ps) = (rest : List ℕ) × Opens rows.Map bytes (count_of_pairs ps) rest
      × SpellsPairs rest ps

  -- each in turn
  pub SpellsItems : List ℕ → Trees → Type 0
  SpellsItems bytes none = bytes ≡ []
  SpellsItems bytes (item t ts) = (front : List ℕ) × (rest : List ℕ) × (bytes ≡ front ++ rest)
      × Spells front t × SpellsItems rest ts

  pub SpellsPairs : List ℕ → Pairs → Type 0
  SpellsPairs bytes no_pairs = bytes ≡ []
  SpellsPairs bytes (pair k v ps) = (key : List ℕ) × (value : List ℕ) × (rest : List ℕ)
      × (bytes ≡ key ++ (value ++ rest)) × Spells key k × Spells value v × SpellsPairs rest ps

-- the length's field is not all there
abbrev pub LacksLength : Size → List ℕ → Type 0
LacksLength (size.Here k) bytes = ⊥
LacksLength (size.Field w) bytes = length bytes < byte_len (width w)

-- the length is there and asks for more than stands behind it, where so many bytes come between
abbrev pub LacksBytes : Size → ℕ → List ℕ → Type 0
LacksBytes s between bytes = (head : List ℕ) × (rest : List ℕ) × (n : ℕ) × (bytes ≡ head ++ rest)
    × IsLength s head n × (length rest < between + n)

-- a fault behind the first byte of a value with no value inside
abbrev pub PlainFails : Plain → List ℕ → DecodeError → Type 0
PlainFails plain.Nil bytes f = ⊥
PlainFails (plain.Bool b) bytes f = ⊥
PlainFails (plain.Small z) bytes f = ⊥
PlainFails (plain.Unsigned w) bytes f = (length bytes < byte_len (width w)) × (f ≡ Truncated)
PlainFails (plain.Signed w) bytes f = (length bytes < byte_len (width w)) × (f ≡ Truncated)
PlainFails plain.Bits32 bytes f = (length bytes < 4) × (f ≡ Truncated)
PlainFails plain.Bits64 bytes f = (length bytes < 8) × (f ≡ Truncated)
PlainFails (plain.Str s) bytes f = ((LacksLength s bytes ⊎ LacksBytes s 0 bytes) × (f ≡ Truncated))
    ⊎ ((head : List ℕ) × (text : List ℕ) × (rest : List ℕ) × (bytes ≡ head ++ (text ++ rest))
    × IsLength s head (length text) × (IsUtf8 text → ⊥) × (f ≡ BadUtf8))
PlainFails (plain.Bin s) bytes f = (LacksLength s bytes ⊎ LacksBytes s 0 bytes) × (f ≡ Truncated)
PlainFails (plain.Ext s) bytes f = (LacksLength s bytes ⊎ LacksBytes s 1 bytes) × (f ≡ Truncated)

-- A fault behind a first byte of this row. Of an array or a map `inside` says it, from how many
-- values an entry has and where the count stands.
abbrev pub FailsRow : Row → List ℕ → DecodeError → (ℕ → Size → Type 0) → Type 0
FailsRow (rows.Plain p) bytes f inside = PlainFails p bytes f
FailsRow rows.Reserved bytes f inside = f ≡ Reserved
FailsRow (rows.Array s) bytes f inside = inside 1 s
FailsRow (rows.Map s) bytes f inside = inside 2 s

-- The first fault from the left is f, where arrays and maps may nest so deep. Inside one of them,
-- the first values are spelled by trees that nest no deeper. The next of the values that are
-- counted fails.
abbrev pub FailsWithin : ℕ → List ℕ → DecodeError → Type 0
FailsWithin zero [] f = f ≡ Truncated
FailsWithin zero (b ∷ bytes) f = FailsRow (row b) bytes f (λ each s. f ≡ TooDeep)
FailsWithin (suc room) [] f = f ≡ Truncated
FailsWithin (suc room) (b ∷ bytes) f = FailsRow (row b) bytes f (λ each s.
    (LacksLength s bytes × (f ≡ Truncated))
    ⊎ ((head : List ℕ) × (front : List ℕ) × (back : List ℕ) × (n : ℕ) × (ts : Trees)
    × (bytes ≡ head ++ (front ++ back)) × IsLength s head n
    × (count ts < each * n) × SpellsItems front ts × (depth_of_items ts ≤ room)
    × FailsWithin room back f))

-- The first fault from the left is f, with n arrays and maps round the bytes.
abbrev pub Fails : List ℕ → ℕ → DecodeError → Type 0
Fails bytes n f = FailsWithin (32 - n) bytes f

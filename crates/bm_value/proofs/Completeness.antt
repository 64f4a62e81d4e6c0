-- What is spelled is read, and where the grammar has a fault, reading tells it.
use Rattle.std.proofs.Common.{◌≡◌, ℕ, zero, suc, ◌*◌, ◌<◌, ◌≤◌, false, cond, ltb, ◌⊎◌, inl, inr, List, [], ◌∷◌, ◌++◌, length, Ok, Err, refl, sym, ap, ap₂, ◌∙◌, append_assoc, arith}
use Rattle.std.specs.Prelude.{ℤ, pos, Some, None}
use Rattle.std.specs.Int.{Width, w8, w32, w64, byte_len, from_be_bytes, cast_signed}
use Rattle.std.proofs.lemmas.Bool.{lt-ltb, le-ltb}
use Rattle.std.proofs.lemmas.List.{take_at, drop_at, length-append}
use Rattle.std.proofs.lemmas.Str.{is_utf8-from_IsUtf8}
use Rattle.bm_value.specs.declared.fault.DecodeError.{DecodeError}
use Rattle.bm_value.specs.declared.fault.DecodeError.TheVariants.{Truncated, BadUtf8, TooDeep}
use Rattle.bm_value.specs.declared.row.Size.{Size}
use Rattle.bm_value.specs.declared.row.Size.TheVariants as size
use Rattle.bm_value.specs.declared.row.Plain.{Plain}
use Rattle.bm_value.specs.declared.row.Plain.TheVariants as plain
use Rattle.bm_value.specs.declared.row.Row.{Row}
use Rattle.bm_value.specs.declared.row.Row.TheVariants as rows
use Rattle.bm_value.specs.Row.{width, row}
use Rattle.bm_value.specs.Tree.{Tree, nil, bool, int, bits32, bits64, str, bin, array, dict, ext, Trees, none, item, Pairs, no_pairs, pair, TreePair, count, count_of_pairs, depth, depth_of_items, depth_of_pairs}
use Rattle.bm_value.specs.Reading.{Answer, ◌>>=◌, mapped, number_at, length_at, bytes_at, text_or_fault, text_at, binary_at, extension_at, plain_at, items_at, pairs_at, value_at, row_with, array_with, map_with, inner}
use Rattle.bm_value.specs.Spelling.{IsField, IsLength, IsPlain, SpellsPlain, Opens, Spells, SpellsItems, SpellsPairs, LacksLength, PlainFails, FailsRow, FailsWithin}
use Rattle.bm_value.proofs.Utf8.{is_no_text}
use Rattle.bm_value.proofs.Values.{value_at-is}

abbrev as_ext : ℤ × List ℕ → Tree
as_ext e = ext e.0 e.1

abbrev kinded : ℕ → List ℕ → ℤ × List ℕ
kinded k t = (cast_signed w8 k, t)

abbrev as_pair : Tree → Tree → TreePair
as_pair k v = record { key = k; value = v }

-- ---- fields

number_again : (w : Width) (field rest : List ℕ) (n : ℕ) → IsField w field n → number_at w (field ++ rest) ≡ Ok (n, rest)
number_again w field rest n is =
    let long : ltb (length (field ++ rest)) (byte_len w) ≡ false = le-ltb _ _ (omega (arith, is.len, length-append field rest)) in
    rw (long, take_at field rest (byte_len w) is.len, drop_at field rest (byte_len w) is.len) (ap (λ (k : ℕ). Ok (k, rest)) is.number)

number_short : (w : Width) (bytes : List ℕ) → length bytes < byte_len w → number_at w bytes ≡ Err Truncated
number_short w bytes lt = rw (lt-ltb _ _ lt) refl

length_again : (s : Size) (head rest : List ℕ) (n : ℕ) → IsLength s head n → length_at s (head ++ rest) ≡ Ok (n, rest)
length_again (size.Here k) head rest n is = ap₂ (λ (m : ℕ) (h : List ℕ). Ok (m, h ++ rest)) (sym is.1) is.0
length_again (size.Field w) head rest n is = number_again (width w) head rest n is

length_short : (s : Size) (bytes : List ℕ) → LacksLength s bytes → length_at s bytes ≡ Err Truncated
length_short (size.Here k) bytes h = absurd h
length_short (size.Field w) bytes h = number_short (width w) bytes h

bytes_again : (n : ℕ) (x rest : List ℕ) → length x ≡ n → bytes_at n (x ++ rest) ≡ Ok (x, rest)
bytes_again n x rest is =
    let long : ltb (length (x ++ rest)) n ≡ false = le-ltb _ _ (omega (arith, is, length-append x rest)) in
    rw (long, take_at x rest n is, drop_at x rest n is) refl

bytes_short : (n : ℕ) (bytes : List ℕ) → length bytes < n → bytes_at n bytes ≡ Err Truncated
bytes_short n bytes lt = rw (lt-ltb _ _ lt) refl

-- ---- values with no value inside

three : (a b c : List ℕ) (bytes rest : List ℕ) → bytes ≡ a ++ (b ++ c) → bytes ++ rest ≡ a ++ (b ++ (c ++ rest))
three a b c bytes rest e = ap (λ (x : List ℕ). x ++ rest) e ∙ append_assoc a (b ++ c) rest ∙ ap (λ (x : List ℕ). a ++ x) (append_assoc b c rest)

two : (a b : List ℕ) (bytes rest : List ℕ) → bytes ≡ a ++ b → bytes ++ rest ≡ a ++ (b ++ rest)
two a b bytes rest e = ap (λ (x : List ℕ). x ++ rest) e ∙ append_assoc a b rest

front_is : (p : Plain) (bytes rest : List ℕ) (t u : Tree) → bytes ≡ [] → t ≡ u → plain_at p rest ≡ Ok (u, rest) → plain_at p (bytes ++ rest) ≡ Ok (t, rest)
front_is p bytes rest t u e f h = ap (λ (x : List ℕ). plain_at p (x ++ rest)) e ∙ h ∙ ap (λ (x : Tree). Ok (x, rest)) (sym f)

plain_again : (p : Plain) (bytes rest : List ℕ) (t : Tree) → IsPlain p bytes t → plain_at p (bytes ++ rest) ≡ Ok (t, rest)
unfolding plain_at text_at binary_at extension_at
plain_again plain.Nil bytes rest t h = front_is plain.Nil bytes rest t nil h.0 h.1 refl
plain_again (plain.Bool b) bytes rest t h = front_is (plain.Bool b) bytes rest t (bool b) h.0 h.1 refl
plain_again (plain.Small z) bytes rest t h = front_is (plain.Small z) bytes rest t (int z) h.0 h.1 refl
plain_again (plain.Unsigned w) bytes rest t h = ap (mapped (λ n. int (pos n))) (number_again (width w) bytes rest h.0 h.1) ∙ ap (λ (x : Tree). Ok (x, rest)) (sym h.2)
plain_again (plain.Signed w) bytes rest t h = ap (λ r. mapped int (mapped (cast_signed (width w)) r)) (number_again (width w) bytes rest h.0 h.1) ∙ ap (λ (x : Tree). Ok (x, rest)) (sym h.2)
plain_again plain.Bits32 bytes rest t h = ap (mapped bits32) (number_again w32 bytes rest h.0 h.1) ∙ ap (λ (x : Tree). Ok (x, rest)) (sym h.2)
plain_again plain.Bits64 bytes rest t h = ap (mapped bits64) (number_again w64 bytes rest h.0 h.1) ∙ ap (λ (x : Tree). Ok (x, rest)) (sym h.2)
plain_again (plain.Str s) bytes rest t h =
    ap (λ x. mapped str (length_at s x >>= λ n. bytes_at n.0 n.1 >>= text_or_fault)) (two h.0 h.1 bytes rest h.2)
    ∙ ap (λ r. mapped str (r >>= λ n. bytes_at n.0 n.1 >>= text_or_fault)) (length_again s h.0 (h.1 ++ rest) (length h.1) h.3)
    ∙ ap (λ r. mapped str (r >>= text_or_fault)) (bytes_again (length h.1) h.1 rest refl)
    ∙ ap (λ b. mapped str (cond b (Ok (h.1, rest)) (Err BadUtf8))) (is_utf8-from_IsUtf8 h.1 h.4)
    ∙ ap (λ (x : Tree). Ok (x, rest)) (sym h.5)
plain_again (plain.Bin s) bytes rest t h =
    ap (λ x. mapped bin (length_at s x >>= λ n. bytes_at n.0 n.1)) (two h.0 h.1 bytes rest h.2)
    ∙ ap (λ r. mapped bin (r >>= λ n. bytes_at n.0 n.1)) (length_again s h.0 (h.1 ++ rest) (length h.1) h.3)
    ∙ ap (mapped bin) (bytes_again (length h.1) h.1 rest refl)
    ∙ ap (λ (x : Tree). Ok (x, rest)) (sym h.4)
plain_again (plain.Ext s) bytes rest t h =
    ap (λ x. mapped as_ext (length_at s x >>= λ n. number_at w8 n.1 >>= λ k. mapped (kinded k.0) (bytes_at n.0 k.1))) (three h.0 h.1 h.2 bytes rest h.4)
    ∙ ap (λ r. mapped as_ext (r >>= λ n. number_at w8 n.1 >>= λ k. mapped (kinded k.0) (bytes_at n.0 k.1))) (length_again s h.0 (h.1 ++ (h.2 ++ rest)) (length h.2) h.5)
    ∙ ap (λ r. mapped as_ext (r >>= λ k. mapped (kinded k.0) (bytes_at (length h.2) k.1))) (number_again w8 h.1 (h.2 ++ rest) h.3 h.6)
    ∙ ap (λ r. mapped as_ext (mapped (kinded h.3) r)) (bytes_again (length h.2) h.2 rest refl)
    ∙ ap (λ (x : Tree). Ok (x, rest)) (sym h.7)

told : {A : Type 0} (f g : DecodeError) (r : Answer A) → r ≡ Err f → g ≡ f → r ≡ Err g
told f g r e is = e ∙ ap (λ x. Err x) (sym is)

plain_fails : (p : Plain) (bytes : List ℕ) (f : DecodeError) → PlainFails p bytes f → plain_at p bytes ≡ Err f
unfolding plain_at text_at binary_at extension_at
plain_fails plain.Nil bytes f h = absurd h
plain_fails (plain.Bool b) bytes f h = absurd h
plain_fails (plain.Small z) bytes f h = absurd h
plain_fails (plain.Unsigned w) bytes f h = told Truncated f _ (ap (mapped (λ n. int (pos n))) (number_short (width w) bytes h.0)) h.1
plain_fails (plain.Signed w) bytes f h = told Truncated f _ (ap (λ r. mapped int (mapped (cast_signed (width w)) r)) (number_short (width w) bytes h.0)) h.1
plain_fails plain.Bits32 bytes f h = told Truncated f _ (ap (mapped bits32) (number_short w32 bytes h.0)) h.1
plain_fails plain.Bits64 bytes f h = told Truncated f _ (ap (mapped bits64) (number_short w64 bytes h.0)) h.1
plain_fails (plain.Str s) bytes f (inl (inl lacks, is)) = told Truncated f _ (ap (λ r. mapped str (r >>= λ n. bytes_at n.0 n.1 >>= text_or_fault)) (length_short s bytes lacks)) is
plain_fails (plain.Str s) bytes f (inl (inr lacks, is)) =
    told Truncated f _ (ap (λ x. mapped str (length_at s x >>= λ n. bytes_at n.0 n.1 >>= text_or_fault)) lacks.3
    ∙ ap (λ r. mapped str (r >>= λ n. bytes_at n.0 n.1 >>= text_or_fault)) (length_again s lacks.0 lacks.1 lacks.2 lacks.4)
    ∙ ap (λ r. mapped str (r >>= text_or_fault)) (bytes_short lacks.2 lacks.1 (omega (arith, lacks.5)))) is
plain_fails (plain.Str s) bytes f (inr h) =
    told BadUtf8 f _ (ap (λ x. mapped str (length_at s x >>= λ n. bytes_at n.0 n.1 >>= text_or_fault)) h.3
    ∙ ap (λ r. mapped str (r >>= λ n. bytes_at n.0 n.1 >>= text_or_fault)) (length_again s h.0 (h.1 ++ h.2) (length h.1) h.4)
    ∙ ap (λ r. mapped str (r >>= text_or_fault)) (bytes_again (length h.1) h.1 h.2 refl)
    ∙ ap (λ b. mapped str (cond b (Ok (h.1, h.2)) (Err BadUtf8))) (is_no_text h.1 h.5)) h.6
plain_fails (plain.Bin s) bytes f (inl lacks, is) = told Truncated f _ (ap (λ r. mapped bin (r >>= λ n. bytes_at n.0 n.1)) (length_short s bytes lacks)) is
plain_fails (plain.Bin s) bytes f (inr lacks, is) =
    told Truncated f _ (ap (λ x. mapped bin (length_at s x >>= λ n. bytes_at n.0 n.1)) lacks.3
    ∙ ap (λ r. mapped bin (r >>= λ n. bytes_at n.0 n.1)) (length_again s lacks.0 lacks.1 lacks.2 lacks.4)
    ∙ ap (mapped bin) (bytes_short lacks.2 lacks.1 (omega (arith, lacks.5)))) is
plain_fails (plain.Ext s) bytes f (inl lacks, is) = told Truncated f _ (ap (λ r. mapped as_ext (r >>= λ n. number_at w8 n.1 >>= λ k. mapped (kinded k.0) (bytes_at n.0 k.1))) (length_short s bytes lacks)) is
plain_fails (plain.Ext s) bytes f (inr (head, [], n, parts, len, short), is) =
    told Truncated f _ (ap (λ x. mapped as_ext (length_at s x >>= λ n. number_at w8 n.1 >>= λ k. mapped (kinded k.0) (bytes_at n.0 k.1))) parts
    ∙ ap (λ r. mapped as_ext (r >>= λ n. number_at w8 n.1 >>= λ k. mapped (kinded k.0) (bytes_at n.0 k.1))) (length_again s head [] n len)) is
plain_fails (plain.Ext s) bytes f (inr (head, k ∷ more, n, parts, len, short), is) =
    told Truncated f _ (ap (λ x. mapped as_ext (length_at s x >>= λ n. number_at w8 n.1 >>= λ k. mapped (kinded k.0) (bytes_at n.0 k.1))) parts
    ∙ ap (λ r. mapped as_ext (r >>= λ n. number_at w8 n.1 >>= λ k. mapped (kinded k.0) (bytes_at n.0 k.1))) (length_again s head (k ∷ more) n len)
    ∙ ap (λ r. mapped as_ext (r >>= λ k. mapped (kinded k.0) (bytes_at n k.1))) (number_again w8 (k ∷ []) more (from_be_bytes w8 (k ∷ [])) record { len = refl; number = refl })
    ∙ ap (λ r. mapped as_ext (mapped (kinded (from_be_bytes w8 (k ∷ []))) r)) (bytes_short n more (omega (arith, short)))) is

-- ---- values

row_is : (d b : ℕ) (r : Row) (bytes : List ℕ) → row b ≡ r → value_at d (b ∷ bytes) ≡ row_with (inner d) r bytes
row_is d b r bytes e = value_at-is d (b ∷ bytes) ∙ ap (λ (x : Row). row_with (inner d) x bytes) e

plain_read : (d : ℕ) (front rest : List ℕ) (t : Tree) → SpellsPlain front t → value_at d (front ++ rest) ≡ Ok (t, rest)
plain_read d [] rest t h = absurd h
plain_read d (b ∷ bytes) rest t h = row_is d b (rows.Plain h.0) (bytes ++ rest) h.1 ∙ plain_again h.0 bytes rest t h.2

array_read : (d n : ℕ) (front tail rest : List ℕ) (ts : Trees) → Opens rows.Array front n tail → items_at (value_at d) n (tail ++ rest) ≡ Ok (ts, rest) → value_at (suc d) (front ++ rest) ≡ Ok (array ts, rest)
array_read d n front tail rest ts o h =
    ap (value_at (suc d)) (ap (λ (x : List ℕ). x ++ rest) o.parts)
    ∙ row_is (suc d) o.first (rows.Array o.size) ((o.head ++ tail) ++ rest) o.begins
    ∙ ap (array_with (Some (value_at d)) o.size) (append_assoc o.head tail rest)
    ∙ ap (λ r. r >>= λ n. mapped array (items_at (value_at d) n.0 n.1)) (length_again o.size o.head (tail ++ rest) n o.counts)
    ∙ ap (mapped array) h

map_read_again : (d n : ℕ) (front tail rest : List ℕ) (ps : Pairs) → Opens rows.Map front n tail → pairs_at (value_at d) n (tail ++ rest) ≡ Ok (ps, rest) → value_at (suc d) (front ++ rest) ≡ Ok (dict ps, rest)
map_read_again d n front tail rest ps o h =
    ap (value_at (suc d)) (ap (λ (x : List ℕ). x ++ rest) o.parts)
    ∙ row_is (suc d) o.first (rows.Map o.size) ((o.head ++ tail) ++ rest) o.begins
    ∙ ap (map_with (Some (value_at d)) o.size) (append_assoc o.head tail rest)
    ∙ ap (λ r. r >>= λ n. mapped dict (pairs_at (value_at d) n.0 n.1)) (length_again o.size o.head (tail ++ rest) n o.counts)
    ∙ ap (mapped dict) h

-- What is spelled is read, whatever follows.
mutual
  unfolding items_at pairs_at

  pub value_again : (t : Tree) (d : ℕ) (front rest : List ℕ) → Spells front t → depth t ≤ d → value_at d (front ++ rest) ≡ Ok (t, rest)
  value_again nil d front rest s h = plain_read d front rest nil s
  value_again (bool b) d front rest s h = plain_read d front rest (bool b) s
  value_again (int z) d front rest s h = plain_read d front rest (int z) s
  value_again (bits32 n) d front rest s h = plain_read d front rest (bits32 n) s
  value_again (bits64 n) d front rest s h = plain_read d front rest (bits64 n) s
  value_again (str x) d front rest s h = plain_read d front rest (str x) s
  value_again (bin x) d front rest s h = plain_read d front rest (bin x) s
  value_again (ext k x) d front rest s h = plain_read d front rest (ext k x) s
  value_again (array ts) zero front rest s h = absurd (omega arith)
  value_again (array ts) (suc d) front rest s h = array_read d (count ts) front s.0 rest ts s.1 (items_again ts d s.0 rest s.2 (omega arith))
  value_again (dict ps) zero front rest s h = absurd (omega arith)
  value_again (dict ps) (suc d) front rest s h = map_read_again d (count_of_pairs ps) front s.0 rest ps s.1 (pairs_again ps d s.0 rest s.2 (omega arith))

  pub items_again : (ts : Trees) (d : ℕ) (front rest : List ℕ) → SpellsItems front ts → depth_of_items ts ≤ d → items_at (value_at d) (count ts) (front ++ rest) ≡ Ok (ts, rest)
  items_again none d front rest s h = ap (λ (x : List ℕ). Ok (none, x ++ rest)) s
  items_again (item t ts) d front rest s h =
      ap (items_at (value_at d) (suc (count ts))) (two s.0 s.1 front rest s.2)
      ∙ ap (λ r. r >>= λ t. mapped (item t.0) (items_at (value_at d) (count ts) t.1)) (value_again t d s.0 (s.1 ++ rest) s.3 (omega arith))
      ∙ ap (mapped (item t)) (items_again ts d s.1 rest s.4 (omega arith))

  pub pairs_again : (ps : Pairs) (d : ℕ) (front rest : List ℕ) → SpellsPairs front ps → depth_of_pairs ps ≤ d → pairs_at (value_at d) (count_of_pairs ps) (front ++ rest) ≡ Ok (ps, rest)
  pairs_again no_pairs d front rest s h = ap (λ (x : List ℕ). Ok (no_pairs, x ++ rest)) s
  pairs_again (pair k v ps) d front rest s h =
      ap (pairs_at (value_at d) (suc (count_of_pairs ps))) (three s.0 s.1 s.2 front rest s.3)
      ∙ ap (λ r. (r >>= λ k. mapped (as_pair k.0) (value_at d k.1)) >>= λ (p : TreePair × List ℕ). mapped (pair p.0.key p.0.value) (pairs_at (value_at d) (count_of_pairs ps) p.1)) (value_again k d s.0 (s.1 ++ (s.2 ++ rest)) s.4 (omega arith))
      ∙ ap (λ r. mapped (as_pair k) r >>= λ (p : TreePair × List ℕ). mapped (pair p.0.key p.0.value) (pairs_at (value_at d) (count_of_pairs ps) p.1)) (value_again v d s.1 (s.2 ++ rest) s.5 (omega arith))
      ∙ ap (mapped (pair k v)) (pairs_again ps d s.2 rest s.6 (omega arith))

-- ---- faults

abbrev pub SpellsFront : ℕ → List ℕ → Trees → Type 0
SpellsFront d front ts = SpellsItems front ts × (depth_of_items ts ≤ d)

items_fail : (ts : Trees) (d n : ℕ) (front back : List ℕ) (f : DecodeError) → SpellsItems front ts → depth_of_items ts ≤ d → count ts < n → value_at d back ≡ Err f → items_at (value_at d) n (front ++ back) ≡ Err f
unfolding items_at
items_fail none d zero front back f s h lt e = absurd (omega arith)
items_fail none d (suc n) front back f s h lt e =
    ap (λ (x : List ℕ). items_at (value_at d) (suc n) (x ++ back)) s ∙ ap (λ r. r >>= λ t. mapped (item t.0) (items_at (value_at d) n t.1)) e
items_fail (item t ts) d zero front back f s h lt e = absurd (omega arith)
items_fail (item t ts) d (suc n) front back f s h lt e =
    ap (items_at (value_at d) (suc n)) (two s.0 s.1 front back s.2)
    ∙ ap (λ r. r >>= λ t. mapped (item t.0) (items_at (value_at d) n t.1)) (value_again t d s.0 (s.1 ++ back) s.3 (omega arith))
    ∙ ap (mapped (item t)) (items_fail ts d n s.1 back f s.4 (omega arith) (omega arith) e)

abbrev pairs_more : ℕ → ℕ → TreePair × List ℕ → Answer Pairs
pairs_more d n p = mapped (pair p.0.key p.0.value) (pairs_at (value_at d) n p.1)

pairs_fail : (ts : Trees) (d n : ℕ) (front back : List ℕ) (f : DecodeError) → SpellsItems front ts → depth_of_items ts ≤ d → count ts < 2 * n → value_at d back ≡ Err f → pairs_at (value_at d) n (front ++ back) ≡ Err f
unfolding pairs_at
pairs_fail none d zero front back f s h lt e = absurd (omega arith)
pairs_fail none d (suc n) front back f s h lt e =
    ap (λ (x : List ℕ). pairs_at (value_at d) (suc n) (x ++ back)) s
    ∙ ap (λ r. (r >>= λ k. mapped (as_pair k.0) (value_at d k.1)) >>= pairs_more d n) e
pairs_fail (item k none) d zero front back f s h lt e = absurd (omega arith)
pairs_fail (item k none) d (suc n) front back f s h lt e =
    ap (pairs_at (value_at d) (suc n)) (two s.0 s.1 front back s.2 ∙ ap (λ (x : List ℕ). s.0 ++ (x ++ back)) s.4)
    ∙ ap (λ r. (r >>= λ k. mapped (as_pair k.0) (value_at d k.1)) >>= pairs_more d n) (value_again k d s.0 back s.3 (omega arith))
    ∙ ap (λ r. mapped (as_pair k) r >>= pairs_more d n) e
pairs_fail (item k (item v ts)) d zero front back f s h lt e = absurd (omega arith)
pairs_fail (item k (item v ts)) d (suc n) front back f s h lt e =
    let inner_parts = two s.4.0 s.4.1 s.1 back s.4.2 in
    ap (pairs_at (value_at d) (suc n)) (two s.0 s.1 front back s.2 ∙ ap (λ (x : List ℕ). s.0 ++ x) inner_parts)
    ∙ ap (λ r. (r >>= λ k. mapped (as_pair k.0) (value_at d k.1)) >>= pairs_more d n) (value_again k d s.0 (s.4.0 ++ (s.4.1 ++ back)) s.3 (omega arith))
    ∙ ap (λ r. mapped (as_pair k) r >>= pairs_more d n) (value_again v d s.4.0 (s.4.1 ++ back) s.4.3 (omega arith))
    ∙ ap (mapped (pair k v)) (pairs_fail ts d n s.4.1 back f s.4.4 (omega arith) (omega arith) e)

row_fails_none : (r : Row) (bytes : List ℕ) (f : DecodeError) → FailsRow r bytes f (λ each s. f ≡ TooDeep) → row_with None r bytes ≡ Err f
row_fails_none (rows.Plain p) bytes f h = plain_fails p bytes f h
row_fails_none (rows.Array s) bytes f h = ap (λ x. Err x) (sym h)
row_fails_none (rows.Map s) bytes f h = ap (λ x. Err x) (sym h)
row_fails_none rows.Reserved bytes f h = ap (λ x. Err x) (sym h)

abbrev pub Within : ℕ → List ℕ → DecodeError → ℕ → Size → Type 0
Within d bytes f each s = (LacksLength s bytes × (f ≡ Truncated))
    ⊎ ((head : List ℕ) × (front : List ℕ) × (back : List ℕ) × (n : ℕ) × (ts : Trees) × (bytes ≡ head ++ (front ++ back)) × IsLength s head n
    × (count ts < each * n) × SpellsItems front ts × (depth_of_items ts ≤ d) × FailsWithin d back f)

row_fails_some : (d : ℕ) (under : (bytes : List ℕ) (f : DecodeError) → FailsWithin d bytes f → value_at d bytes ≡ Err f) (r : Row) (bytes : List ℕ) (f : DecodeError) → FailsRow r bytes f (Within d bytes f) → row_with (Some (value_at d)) r bytes ≡ Err f
row_fails_some d under (rows.Plain p) bytes f h = plain_fails p bytes f h
row_fails_some d under (rows.Array s) bytes f (inl h) = told Truncated f _ (ap (λ r. r >>= λ n. mapped array (items_at (value_at d) n.0 n.1)) (length_short s bytes h.0)) h.1
row_fails_some d under (rows.Array s) bytes f (inr h) =
    ap (array_with (Some (value_at d)) s) h.5
    ∙ ap (λ r. r >>= λ n. mapped array (items_at (value_at d) n.0 n.1)) (length_again s h.0 (h.1 ++ h.2) h.3 h.6)
    ∙ ap (mapped array) (items_fail h.4 d h.3 h.1 h.2 f h.8 h.9 (omega (arith, h.7)) (under h.2 f h.10))
row_fails_some d under (rows.Map s) bytes f (inl h) = told Truncated f _ (ap (λ r. r >>= λ n. mapped dict (pairs_at (value_at d) n.0 n.1)) (length_short s bytes h.0)) h.1
row_fails_some d under (rows.Map s) bytes f (inr h) =
    ap (map_with (Some (value_at d)) s) h.5
    ∙ ap (λ r. r >>= λ n. mapped dict (pairs_at (value_at d) n.0 n.1)) (length_again s h.0 (h.1 ++ h.2) h.3 h.6)
    ∙ ap (mapped dict) (pairs_fail h.4 d h.3 h.1 h.2 f h.8 h.9 (omega (arith, h.7)) (under h.2 f h.10))
row_fails_some d under rows.Reserved bytes f h = ap (λ x. Err x) (sym h)

-- Where the grammar has a fault, reading tells it.
pub value_fails : (d : ℕ) (bytes : List ℕ) (f : DecodeError) → FailsWithin d bytes f → value_at d bytes ≡ Err f
unfolding value_at
value_fails zero [] f h = ap (λ x. Err x) (sym h)
value_fails zero (b ∷ bytes) f h = row_fails_none (row b) bytes f h
value_fails (suc d) [] f h = ap (λ x. Err x) (sym h)
value_fails (suc d) (b ∷ bytes) f h = row_fails_some d (value_fails d) (row b) bytes f h

-- What reading answers, in the words of the grammar: what is read is spelled so, and a fault is
-- there.
use Rattle.std.proofs.Common.{◌≡◌, ℕ, zero, suc, ◌*◌, ◌<◌, ◌≤◌, Bool, true, false, cond, ◌⊎◌, inl, inr, List, [], ◌∷◌, ◌++◌, length, take, Ok, Err, refl, true≢false, sym, ap, subst, ◌∙◌, append_assoc, arith}
use Rattle.std.specs.Prelude.{ℤ, pos, Some, None}
use Rattle.std.specs.Int.{Width, w8, w32, w64, byte_len, cast_signed}
use Rattle.std.specs.Str.{IsUtf8, is_utf8}
use Rattle.std.proofs.lemmas.Bool.{cases_lt, lt-ltb, le-ltb}
use Rattle.std.proofs.lemmas.List.{take-append-drop, length-take, length-append, append-nil}
use Rattle.std.proofs.lemmas.Str.{is_utf8-from_IsUtf8, IsUtf8-from_is_utf8}
use Rattle.bm_value.specs.declared.fault.DecodeError.{DecodeError}
use Rattle.bm_value.specs.declared.fault.DecodeError.TheVariants.{Truncated, BadUtf8, TooDeep}
use Rattle.bm_value.specs.declared.row.Size.{Size}
use Rattle.bm_value.specs.declared.row.Size.TheVariants as size
use Rattle.bm_value.specs.declared.row.Plain.{Plain}
use Rattle.bm_value.specs.declared.row.Plain.TheVariants as plain
use Rattle.bm_value.specs.declared.row.Row.{Row}
use Rattle.bm_value.specs.declared.row.Row.TheVariants as rows
use Rattle.bm_value.specs.Row.{width, row}
use Rattle.bm_value.specs.Tree.{Tree, int, bits32, bits64, str, bin, array, dict, ext, Trees, none, item, Pairs, pair, TreePair, count, count_of_pairs, depth, depth_of_items, depth_of_pairs}
use Rattle.bm_value.specs.Reading.{Answer, ◌>>=◌, mapped, number_at, length_at, bytes_at, text_or_fault, signed_at, text_at, binary_at, extension_at, plain_at, items_at, pair_at, pairs_at, value_at, row_with, array_with, map_with}
use Rattle.bm_value.specs.Spelling.{IsField, IsLength, IsPlain, Spells, SpellsItems, SpellsPairs, LacksLength, PlainFails, FailsRow, FailsWithin}

abbrev pub Outcome : {A : Type 0} → (List ℕ → A → Type 0) → (DecodeError → Type 0) → List ℕ → Answer A → Type 0
Outcome P F bytes (Ok x) = (front : List ℕ) × (bytes ≡ front ++ x.1) × P front x.0
Outcome P F bytes (Err e) = F e

outcome_mapped : {A B : Type 0} (P : List ℕ → A → Type 0) (F : DecodeError → Type 0) (Q : List ℕ → B → Type 0) (G : DecodeError → Type 0) (f : A → B) (bytes : List ℕ) (r : Answer A)
    → ((front : List ℕ) (x : A) → P front x → Q front (f x)) → ((e : DecodeError) → F e → G e) → Outcome P F bytes r → Outcome Q G bytes (mapped f r)
outcome_mapped P F Q G f bytes (Ok x) good bad o = (o.0, o.1, good o.0 x.0 o.2)
outcome_mapped P F Q G f bytes (Err e) good bad o = bad e o

outcome_behind : {B : Type 0} (Q : List ℕ → B → Type 0) (G : DecodeError → Type 0) (bytes front rest : List ℕ) (r : Answer B) → bytes ≡ front ++ rest → Outcome (λ next y. Q (front ++ next) y) G rest r → Outcome Q G bytes r
outcome_behind Q G bytes front rest (Ok y) e o = (front ++ o.0, e ∙ ap (λ (x : List ℕ). front ++ x) o.1 ∙ sym (append_assoc front o.0 y.1), o.2)
outcome_behind Q G bytes front rest (Err d) e o = o

outcome_bind : {A B : Type 0} (P : List ℕ → A → Type 0) (F : DecodeError → Type 0) (Q : List ℕ → B → Type 0) (G : DecodeError → Type 0) (f : A × List ℕ → Answer B) (bytes : List ℕ) (r : Answer A)
    → ((e : DecodeError) → F e → G e) → ((front rest : List ℕ) (x : A) → bytes ≡ front ++ rest → P front x → Outcome (λ next y. Q (front ++ next) y) G rest (f (x, rest))) → Outcome P F bytes r → Outcome Q G bytes (r >>= f)
outcome_bind P F Q G f bytes (Ok x) bad next o = outcome_behind Q G bytes o.0 x.1 (f x) o.1 (next o.0 x.1 x.0 o.1 o.2)
outcome_bind P F Q G f bytes (Err e) bad next o = bad e o

outcome_along : {A : Type 0} (P : List ℕ → A → Type 0) (F : DecodeError → Type 0) (Q : List ℕ → A → Type 0) (G : DecodeError → Type 0) (bytes : List ℕ) (r : Answer A)
    → ((e : DecodeError) → F e → G e) → ((front : List ℕ) (x : A) → P front x → Q front x) → Outcome P F bytes r → Outcome Q G bytes r
outcome_along P F Q G bytes (Ok x) bad good o = (o.0, o.1, good o.0 x.0 o.2)
outcome_along P F Q G bytes (Err e) bad good o = bad e o

cases_utf8 : (bs : List ℕ) → ((is_utf8 bs ≡ true) × IsUtf8 bs) ⊎ ((is_utf8 bs ≡ false) × (IsUtf8 bs → ⊥))
cases_utf8 bs = known (is_utf8 bs) refl
  where
    known : (b : Bool) → is_utf8 bs ≡ b → ((is_utf8 bs ≡ true) × IsUtf8 bs) ⊎ ((is_utf8 bs ≡ false) × (IsUtf8 bs → ⊥))
    known true e = inl (e, IsUtf8-from_is_utf8 bs e)
    known false e = inr (e, λ h. true≢false (sym (is_utf8-from_IsUtf8 bs h) ∙ e))

-- ---- fields

number_outcome : (w : Width) (bytes : List ℕ) → Outcome (IsField w) (λ e. (length bytes < byte_len w) × (e ≡ Truncated)) bytes (number_at w bytes)
number_outcome w bytes =
    elim (cases_lt (length bytes) (byte_len w)) [
      | inl lt ↦ rw (lt-ltb _ _ lt) (lt, refl)
      | inr le ↦ rw (le-ltb _ _ le) (take (byte_len w) bytes, sym (take-append-drop (byte_len w) bytes), record { len = omega (arith, length-take (byte_len w) bytes); number = refl })
    ]

length_outcome : (s : Size) (bytes : List ℕ) → Outcome (IsLength s) (λ e. LacksLength s bytes × (e ≡ Truncated)) bytes (length_at s bytes)
length_outcome (size.Here k) bytes = ([], refl, (refl, refl))
length_outcome (size.Field w) bytes = number_outcome (width w) bytes

bytes_outcome : (n : ℕ) (bytes : List ℕ) → Outcome (λ front x. (front ≡ x) × (length x ≡ n)) (λ e. (length bytes < n) × (e ≡ Truncated)) bytes (bytes_at n bytes)
bytes_outcome n bytes =
    elim (cases_lt (length bytes) n) [
      | inl lt ↦ rw (lt-ltb _ _ lt) (lt, refl)
      | inr le ↦ rw (le-ltb _ _ le) (take n bytes, sym (take-append-drop n bytes), (refl, omega (arith, length-take n bytes)))
    ]

-- ---- values with no value inside

pub text_outcome : (s : Size) (bytes : List ℕ) → Outcome (λ front text. (head : List ℕ) × (body : List ℕ) × (front ≡ head ++ body) × IsLength s head (length body) × IsUtf8 body × (text ≡ body)) (PlainFails (plain.Str s) bytes) bytes (text_at s bytes)
unfolding text_at
text_outcome s bytes =
    outcome_bind (IsLength s) (λ e. LacksLength s bytes × (e ≡ Truncated)) _ (PlainFails (plain.Str s) bytes) (λ n. bytes_at n.0 n.1 >>= text_or_fault) bytes (length_at s bytes)
    (λ e h. inl (inl h.0, h.1))
    (λ head rest n e len.
    outcome_bind (λ front x. (front ≡ x) × (length x ≡ n)) (λ d. (length rest < n) × (d ≡ Truncated)) _ (PlainFails (plain.Str s) bytes) text_or_fault rest (bytes_at n rest)
    (λ d h. inl (inr (head, rest, n, e, len, omega (arith, h.0)), h.1))
    (λ front more x parts is.
    let long : IsLength s head (length x) = subst (λ k. IsLength s head k) (sym is.1) len in
    let known = cases_utf8 x in
    elim known [
      | inl here ↦ subst (λ r. Outcome (λ next text. (h : List ℕ) × (body : List ℕ) × (head ++ (front ++ next) ≡ h ++ body) × IsLength s h (length body) × IsUtf8 body × (text ≡ body)) (PlainFails (plain.Str s) bytes) more (cond r (Ok (x, more)) (Err BadUtf8))) (sym here.0)
          ([], refl, (head, x, ap (λ (t : List ℕ). head ++ t) (append-nil front ∙ is.0), long, here.1, refl))
      | inr gone ↦ subst (λ r. Outcome (λ next text. (h : List ℕ) × (body : List ℕ) × (head ++ (front ++ next) ≡ h ++ body) × IsLength s h (length body) × IsUtf8 body × (text ≡ body)) (PlainFails (plain.Str s) bytes) more (cond r (Ok (x, more)) (Err BadUtf8))) (sym gone.0)
          (inr (head, x, more, e ∙ ap (λ (t : List ℕ). head ++ t) (parts ∙ ap (λ (t : List ℕ). t ++ more) is.0), long, gone.1, refl))
    ])
    (bytes_outcome n rest))
    (length_outcome s bytes)

pub binary_outcome : (s : Size) (bytes : List ℕ) → Outcome (λ front x. (head : List ℕ) × (body : List ℕ) × (front ≡ head ++ body) × IsLength s head (length body) × (x ≡ body)) (PlainFails (plain.Bin s) bytes) bytes (binary_at s bytes)
unfolding binary_at
binary_outcome s bytes =
    outcome_bind (IsLength s) (λ e. LacksLength s bytes × (e ≡ Truncated)) _ (PlainFails (plain.Bin s) bytes) (λ n. bytes_at n.0 n.1) bytes (length_at s bytes)
    (λ e h. (inl h.0, h.1))
    (λ head rest n e len.
    outcome_along (λ front x. (front ≡ x) × (length x ≡ n)) (λ d. (length rest < n) × (d ≡ Truncated)) _ (PlainFails (plain.Bin s) bytes) rest (bytes_at n rest)
    (λ d h. (inr (head, rest, n, e, len, omega (arith, h.0)), h.1))
    (λ front x is. (head, x, ap (λ (t : List ℕ). head ++ t) is.0, subst (λ k. IsLength s head k) (sym is.1) len, refl))
    (bytes_outcome n rest))
    (length_outcome s bytes)

extension_outcome : (s : Size) (bytes : List ℕ) → Outcome (λ front x. (head : List ℕ) × (kind : List ℕ) × (body : List ℕ) × (k : ℕ) × (front ≡ head ++ (kind ++ body)) × IsLength s head (length body) × IsField w8 kind k × (x ≡ (cast_signed w8 k, body))) (PlainFails (plain.Ext s) bytes) bytes (extension_at s bytes)
unfolding extension_at
extension_outcome s bytes =
    outcome_bind (IsLength s) (λ e. LacksLength s bytes × (e ≡ Truncated)) _ (PlainFails (plain.Ext s) bytes) (λ n. number_at w8 n.1 >>= λ k. mapped (λ t. (cast_signed w8 k.0, t)) (bytes_at n.0 k.1)) bytes (length_at s bytes)
    (λ e h. (inl h.0, h.1))
    (λ head rest n e len.
    outcome_bind (IsField w8) (λ d. (length rest < 1) × (d ≡ Truncated)) _ (PlainFails (plain.Ext s) bytes) (λ k. mapped (λ t. (cast_signed w8 k.0, t)) (bytes_at n k.1)) rest (number_at w8 rest)
    (λ d h. (inr (head, rest, n, e, len, omega (arith, h.0)), h.1))
    (λ kind more k parts field.
    outcome_mapped (λ front x. (front ≡ x) × (length x ≡ n)) (λ d. (length more < n) × (d ≡ Truncated)) _ (PlainFails (plain.Ext s) bytes) (λ t. (cast_signed w8 k, t)) more (bytes_at n more)
    (λ front x is. (head, kind, x, k, ap (λ (t : List ℕ). head ++ (kind ++ t)) is.0, subst (λ z. IsLength s head z) (sym is.1) len, field, refl))
    (λ d h. (inr (head, rest, n, e, len, omega (arith, h.0, field.len, ap length parts, length-append kind more)), h.1))
    (bytes_outcome n more))
    (number_outcome w8 rest))
    (length_outcome s bytes)

plain_outcome : (p : Plain) (bytes : List ℕ) → Outcome (IsPlain p) (PlainFails p bytes) bytes (plain_at p bytes)
unfolding plain_at
plain_outcome plain.Nil bytes = ([], refl, (refl, refl))
plain_outcome (plain.Bool b) bytes = ([], refl, (refl, refl))
plain_outcome (plain.Small z) bytes = ([], refl, (refl, refl))
plain_outcome (plain.Unsigned w) bytes =
    outcome_mapped (IsField (width w)) (λ e. (length bytes < byte_len (width w)) × (e ≡ Truncated)) (IsPlain (plain.Unsigned w)) (PlainFails (plain.Unsigned w) bytes) (λ n. int (pos n)) bytes (number_at (width w) bytes)
    (λ front n is. (n, is, refl)) (λ e h. h) (number_outcome (width w) bytes)
plain_outcome (plain.Signed w) bytes =
    outcome_mapped (λ front z. (n : ℕ) × IsField (width w) front n × (z ≡ cast_signed (width w) n)) (λ e. (length bytes < byte_len (width w)) × (e ≡ Truncated)) (IsPlain (plain.Signed w)) (PlainFails (plain.Signed w) bytes) int bytes (signed_at w bytes)
    (λ front z is. (is.0, is.1, ap int is.2)) (λ e h. h)
    (outcome_mapped (IsField (width w)) (λ e. (length bytes < byte_len (width w)) × (e ≡ Truncated)) (λ front z. (n : ℕ) × IsField (width w) front n × (z ≡ cast_signed (width w) n)) (λ e. (length bytes < byte_len (width w)) × (e ≡ Truncated)) (cast_signed (width w)) bytes (number_at (width w) bytes)
    (λ front n is. (n, is, refl)) (λ e h. h) (number_outcome (width w) bytes))
plain_outcome plain.Bits32 bytes =
    outcome_mapped (IsField w32) (λ e. (length bytes < 4) × (e ≡ Truncated)) (IsPlain plain.Bits32) (PlainFails plain.Bits32 bytes) bits32 bytes (number_at w32 bytes)
    (λ front n is. (n, is, refl)) (λ e h. h) (number_outcome w32 bytes)
plain_outcome plain.Bits64 bytes =
    outcome_mapped (IsField w64) (λ e. (length bytes < 8) × (e ≡ Truncated)) (IsPlain plain.Bits64) (PlainFails plain.Bits64 bytes) bits64 bytes (number_at w64 bytes)
    (λ front n is. (n, is, refl)) (λ e h. h) (number_outcome w64 bytes)
plain_outcome (plain.Str s) bytes =
    outcome_mapped (λ front text. (head : List ℕ) × (body : List ℕ) × (front ≡ head ++ body) × IsLength s head (length body) × IsUtf8 body × (text ≡ body)) (PlainFails (plain.Str s) bytes) (IsPlain (plain.Str s)) (PlainFails (plain.Str s) bytes) str bytes (text_at s bytes)
    (λ front x is. (is.0, is.1, is.2, is.3, is.4, ap str is.5)) (λ e h. h) (text_outcome s bytes)
plain_outcome (plain.Bin s) bytes =
    outcome_mapped (λ front x. (head : List ℕ) × (body : List ℕ) × (front ≡ head ++ body) × IsLength s head (length body) × (x ≡ body)) (PlainFails (plain.Bin s) bytes) (IsPlain (plain.Bin s)) (PlainFails (plain.Bin s) bytes) bin bytes (binary_at s bytes)
    (λ front x is. (is.0, is.1, is.2, is.3, ap bin is.4)) (λ e h. h) (binary_outcome s bytes)
plain_outcome (plain.Ext s) bytes =
    outcome_mapped (λ front x. (head : List ℕ) × (kind : List ℕ) × (body : List ℕ) × (k : ℕ) × (front ≡ head ++ (kind ++ body)) × IsLength s head (length body) × IsField w8 kind k × (x ≡ (cast_signed w8 k, body))) (PlainFails (plain.Ext s) bytes) (IsPlain (plain.Ext s)) (PlainFails (plain.Ext s) bytes) (λ e. ext e.0 e.1) bytes (extension_at s bytes)
    (λ front x is. (is.0, is.1, is.2, is.3, is.4, is.5, is.6, ap (λ (e : ℤ × List ℕ). ext e.0 e.1) is.7)) (λ e h. h) (extension_outcome s bytes)

-- the trees of such a row spell themselves
is_spelled : (d : ℕ) (p : Plain) (b : ℕ) (bytes : List ℕ) (t : Tree) → row b ≡ rows.Plain p → IsPlain p bytes t → Spells (b ∷ bytes) t × (depth t ≤ d)
is_spelled d plain.Nil b bytes t r h = subst (λ t. Spells (b ∷ bytes) t × (depth t ≤ d)) (sym h.1) ((plain.Nil, r, (h.0, refl)), omega arith)
is_spelled d (plain.Bool v) b bytes t r h = subst (λ t. Spells (b ∷ bytes) t × (depth t ≤ d)) (sym h.1) ((plain.Bool v, r, (h.0, refl)), omega arith)
is_spelled d (plain.Small z) b bytes t r h = subst (λ t. Spells (b ∷ bytes) t × (depth t ≤ d)) (sym h.1) ((plain.Small z, r, (h.0, refl)), omega arith)
is_spelled d (plain.Unsigned w) b bytes t r h = subst (λ t. Spells (b ∷ bytes) t × (depth t ≤ d)) (sym h.2) ((plain.Unsigned w, r, (h.0, h.1, refl)), omega arith)
is_spelled d (plain.Signed w) b bytes t r h = subst (λ t. Spells (b ∷ bytes) t × (depth t ≤ d)) (sym h.2) ((plain.Signed w, r, (h.0, h.1, refl)), omega arith)
is_spelled d plain.Bits32 b bytes t r h = subst (λ t. Spells (b ∷ bytes) t × (depth t ≤ d)) (sym h.2) ((plain.Bits32, r, (h.0, h.1, refl)), omega arith)
is_spelled d plain.Bits64 b bytes t r h = subst (λ t. Spells (b ∷ bytes) t × (depth t ≤ d)) (sym h.2) ((plain.Bits64, r, (h.0, h.1, refl)), omega arith)
is_spelled d (plain.Str s) b bytes t r h = subst (λ t. Spells (b ∷ bytes) t × (depth t ≤ d)) (sym h.5) ((plain.Str s, r, (h.0, h.1, h.2, h.3, h.4, refl)), omega arith)
is_spelled d (plain.Bin s) b bytes t r h = subst (λ t. Spells (b ∷ bytes) t × (depth t ≤ d)) (sym h.4) ((plain.Bin s, r, (h.0, h.1, h.2, h.3, refl)), omega arith)
is_spelled d (plain.Ext s) b bytes t r h = subst (λ t. Spells (b ∷ bytes) t × (depth t ≤ d)) (sym h.7) ((plain.Ext s, r, (h.0, h.1, h.2, h.3, h.4, h.5, h.6, refl)), omega arith)

-- ---- arrays and maps

abbrev pub Found : ℕ → List ℕ → Tree → Type 0
Found d front t = Spells front t × (depth t ≤ d)

-- after some children the next one fails, and fewer than n come before it
abbrev pub ChildFails : ℕ → ℕ → List ℕ → DecodeError → Type 0
ChildFails d n bytes f = (front : List ℕ) × (back : List ℕ) × (ts : Trees) × (bytes ≡ front ++ back) × (count ts < n) × SpellsItems front ts × (depth_of_items ts ≤ d) × FailsWithin d back f

abbrev FoundItems : ℕ → ℕ → List ℕ → Trees → Type 0
FoundItems d n front ts = SpellsItems front ts × (count ts ≡ n) × (depth_of_items ts ≤ d)

abbrev FoundPair : ℕ → List ℕ → TreePair → Type 0
FoundPair d front p = (key : List ℕ) × (value : List ℕ) × (front ≡ key ++ value) × Spells key p.key × Spells value p.value × (depth p.key ≤ d) × (depth p.value ≤ d)

abbrev FoundPairs : ℕ → ℕ → List ℕ → Pairs → Type 0
FoundPairs d n front ps = SpellsPairs front ps × (count_of_pairs ps ≡ n) × (depth_of_pairs ps ≤ d)

items_outcome : (d : ℕ) (each : (bytes : List ℕ) → Outcome (Found d) (FailsWithin d bytes) bytes (value_at d bytes)) (n : ℕ) (bytes : List ℕ) → Outcome (FoundItems d n) (ChildFails d n bytes) bytes (items_at (value_at d) n bytes)
unfolding items_at
items_outcome d each zero bytes = ([], refl, (refl, refl, omega arith))
items_outcome d each (suc n) bytes =
    outcome_bind (Found d) (FailsWithin d bytes) (FoundItems d (suc n)) (ChildFails d (suc n) bytes) (λ t. mapped (item t.0) (items_at (value_at d) n t.1)) bytes (value_at d bytes)
    (λ e h. ([], bytes, none, refl, omega arith, refl, omega arith, h))
    (λ front rest t e is.
    outcome_mapped (FoundItems d n) (ChildFails d n rest) (λ next ts. FoundItems d (suc n) (front ++ next) ts) (ChildFails d (suc n) bytes) (item t) rest (items_at (value_at d) n rest)
    (λ next ts h. ((front, next, refl, is.0, h.0), ap suc h.1, omega (arith, is.1, h.2)))
    (λ f h. (front ++ h.0, h.1, item t h.2, e ∙ ap (λ (x : List ℕ). front ++ x) h.3 ∙ sym (append_assoc front h.0 h.1), omega (arith, h.4), (front, h.0, refl, is.0, h.5), omega (arith, is.1, h.6), h.7))
    (items_outcome d each n rest))
    (each bytes)

pair_outcome : (d : ℕ) (each : (bytes : List ℕ) → Outcome (Found d) (FailsWithin d bytes) bytes (value_at d bytes)) (bytes : List ℕ) → Outcome (FoundPair d) (ChildFails d 2 bytes) bytes (pair_at (value_at d) bytes)
pair_outcome d each bytes =
    outcome_bind (Found d) (FailsWithin d bytes) (FoundPair d) (ChildFails d 2 bytes) (λ k. mapped (λ v. record { key = k.0; value = v }) (value_at d k.1)) bytes (value_at d bytes)
    (λ e h. ([], bytes, none, refl, omega arith, refl, omega arith, h))
    (λ front rest t e is.
    outcome_mapped (Found d) (FailsWithin d rest) (λ next p. FoundPair d (front ++ next) p) (ChildFails d 2 bytes) (λ v. record { key = t; value = v }) rest (value_at d rest)
    (λ next v h. (front, next, refl, is.0, h.0, is.1, h.1))
    (λ f h. (front, rest, item t none, e, omega arith, (front, [], sym (append-nil front), is.0, refl), omega (arith, is.1), h))
    (each rest))
    (each bytes)

pairs_outcome : (d : ℕ) (each : (bytes : List ℕ) → Outcome (Found d) (FailsWithin d bytes) bytes (value_at d bytes)) (n : ℕ) (bytes : List ℕ) → Outcome (FoundPairs d n) (ChildFails d (2 * n) bytes) bytes (pairs_at (value_at d) n bytes)
unfolding pairs_at
pairs_outcome d each zero bytes = ([], refl, (refl, refl, omega arith))
pairs_outcome d each (suc n) bytes =
    outcome_bind (FoundPair d) (ChildFails d 2 bytes) (FoundPairs d (suc n)) (ChildFails d (2 * suc n) bytes) (λ p. mapped (pair p.0.key p.0.value) (pairs_at (value_at d) n p.1)) bytes (pair_at (value_at d) bytes)
    (λ e h. (h.0, h.1, h.2, h.3, omega (arith, h.4), h.5, h.6, h.7))
    (λ front rest p e is.
    outcome_mapped (FoundPairs d n) (ChildFails d (2 * n) rest) (λ next ps. FoundPairs d (suc n) (front ++ next) ps) (ChildFails d (2 * suc n) bytes) (pair p.key p.value) rest (pairs_at (value_at d) n rest)
    (λ next ps h. ((is.0, is.1, next, ap (λ (x : List ℕ). x ++ next) is.2 ∙ append_assoc is.0 is.1 next, is.3, is.4, h.0), ap suc h.1, omega (arith, is.5, is.6, h.2)))
    (λ f h. (
      front ++ h.0,
      h.1,
      item p.key (item p.value h.2),
      e ∙ ap (λ (x : List ℕ). front ++ x) h.3 ∙ sym (append_assoc front h.0 h.1),
      omega (arith, h.4),
      (is.0, is.1 ++ h.0, ap (λ (x : List ℕ). x ++ h.0) is.2 ∙ append_assoc is.0 is.1 h.0, is.3, (is.1, h.0, refl, is.4, h.5)),
      omega (arith, is.5, is.6, h.6),
      h.7,
    ))
    (pairs_outcome d each n rest))
    (pair_outcome d each bytes)

-- ---- values

abbrev Inside : ℕ → List ℕ → DecodeError → ℕ → Size → Type 0
Inside zero bytes f each s = f ≡ TooDeep
Inside (suc d) bytes f each s = (LacksLength s bytes × (f ≡ Truncated))
    ⊎ ((head : List ℕ) × (front : List ℕ) × (back : List ℕ) × (n : ℕ) × (ts : Trees) × (bytes ≡ head ++ (front ++ back)) × IsLength s head n
    × (count ts < each * n) × SpellsItems front ts × (depth_of_items ts ≤ d) × FailsWithin d back f)

array_outcome : (d : ℕ) (each : (bytes : List ℕ) → Outcome (Found d) (FailsWithin d bytes) bytes (value_at d bytes)) (b : ℕ) (s : Size) (bytes : List ℕ) → row b ≡ rows.Array s
    → Outcome (λ front t. Found (suc d) (b ∷ front) t) (λ f. Inside (suc d) bytes f 1 s) bytes (array_with (Some (value_at d)) s bytes)
array_outcome d each b s bytes r =
    outcome_bind (IsLength s) (λ e. LacksLength s bytes × (e ≡ Truncated)) (λ front t. Found (suc d) (b ∷ front) t) (λ f. Inside (suc d) bytes f 1 s) (λ n. mapped array (items_at (value_at d) n.0 n.1)) bytes (length_at s bytes)
    (λ e h. inl h)
    (λ head rest n e len.
    outcome_mapped (FoundItems d n) (ChildFails d n rest) (λ next t. Found (suc d) (b ∷ (head ++ next)) t) (λ f. Inside (suc d) bytes f 1 s) array rest (items_at (value_at d) n rest)
    (λ next ts h. ((next, record { first = b; size = s; head = head; parts = refl; begins = r; counts = subst (λ k. IsLength s head k) (sym h.1) len }, h.0), omega (arith, h.2)))
    (λ f h. inr (head, h.0, h.1, n, h.2, e ∙ ap (λ (x : List ℕ). head ++ x) h.3, len, omega (arith, h.4), h.5, h.6, h.7))
    (items_outcome d each n rest))
    (length_outcome s bytes)

map_outcome : (d : ℕ) (each : (bytes : List ℕ) → Outcome (Found d) (FailsWithin d bytes) bytes (value_at d bytes)) (b : ℕ) (s : Size) (bytes : List ℕ) → row b ≡ rows.Map s
    → Outcome (λ front t. Found (suc d) (b ∷ front) t) (λ f. Inside (suc d) bytes f 2 s) bytes (map_with (Some (value_at d)) s bytes)
map_outcome d each b s bytes r =
    outcome_bind (IsLength s) (λ e. LacksLength s bytes × (e ≡ Truncated)) (λ front t. Found (suc d) (b ∷ front) t) (λ f. Inside (suc d) bytes f 2 s) (λ n. mapped dict (pairs_at (value_at d) n.0 n.1)) bytes (length_at s bytes)
    (λ e h. inl h)
    (λ head rest n e len.
    outcome_mapped (FoundPairs d n) (ChildFails d (2 * n) rest) (λ next t. Found (suc d) (b ∷ (head ++ next)) t) (λ f. Inside (suc d) bytes f 2 s) dict rest (pairs_at (value_at d) n rest)
    (λ next ps h. ((next, record { first = b; size = s; head = head; parts = refl; begins = r; counts = subst (λ k. IsLength s head k) (sym h.1) len }, h.0), omega (arith, h.2)))
    (λ f h. inr (head, h.0, h.1, n, h.2, e ∙ ap (λ (x : List ℕ). head ++ x) h.3, len, omega (arith, h.4), h.5, h.6, h.7))
    (pairs_outcome d each n rest))
    (length_outcome s bytes)

row_outcome_none : (r : Row) (b : ℕ) (bytes : List ℕ) → row b ≡ r → Outcome (λ front t. Found 0 (b ∷ front) t) (λ f. FailsRow r bytes f (λ each s. f ≡ TooDeep)) bytes (row_with None r bytes)
row_outcome_none (rows.Plain p) b bytes is = outcome_along (IsPlain p) (PlainFails p bytes) (λ front t. Found 0 (b ∷ front) t) (PlainFails p bytes) bytes (plain_at p bytes) (λ e h. h) (λ front t h. is_spelled 0 p b front t is h) (plain_outcome p bytes)
row_outcome_none (rows.Array s) b bytes is = refl
row_outcome_none (rows.Map s) b bytes is = refl
row_outcome_none rows.Reserved b bytes is = refl

row_outcome_some : (d : ℕ) (each : (bytes : List ℕ) → Outcome (Found d) (FailsWithin d bytes) bytes (value_at d bytes)) (r : Row) (b : ℕ) (bytes : List ℕ) → row b ≡ r
    → Outcome (λ front t. Found (suc d) (b ∷ front) t) (λ f. FailsRow r bytes f (Inside (suc d) bytes f)) bytes (row_with (Some (value_at d)) r bytes)
row_outcome_some d each (rows.Plain p) b bytes is = outcome_along (IsPlain p) (PlainFails p bytes) (λ front t. Found (suc d) (b ∷ front) t) (PlainFails p bytes) bytes (plain_at p bytes) (λ e h. h) (λ front t h. is_spelled (suc d) p b front t is h) (plain_outcome p bytes)
row_outcome_some d each (rows.Array s) b bytes is = array_outcome d each b s bytes is
row_outcome_some d each (rows.Map s) b bytes is = map_outcome d each b s bytes is
row_outcome_some d each rows.Reserved b bytes is = refl

-- What is read is spelled so and nests no deeper, and the fault that is told is there.
pub value_outcome : (d : ℕ) (bytes : List ℕ) → Outcome (Found d) (FailsWithin d bytes) bytes (value_at d bytes)
unfolding value_at
value_outcome zero [] = refl
value_outcome zero (b ∷ bytes) = outcome_behind (Found 0) (FailsWithin 0 (b ∷ bytes)) (b ∷ bytes) (b ∷ []) bytes (row_with None (row b) bytes) refl (row_outcome_none (row b) b bytes refl)
value_outcome (suc d) [] = refl
value_outcome (suc d) (b ∷ bytes) = outcome_behind (Found (suc d)) (FailsWithin (suc d) (b ∷ bytes)) (b ∷ bytes) (b ∷ []) bytes (row_with (Some (value_at d)) (row b) bytes) refl (row_outcome_some d (value_outcome d) (row b) b bytes refl)

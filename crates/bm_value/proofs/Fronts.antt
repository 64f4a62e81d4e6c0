-- What `decode` says of its result, from what reading gives.
use Rattle.std.proofs.Common.{◌≡◌, ◌≢◌, ℕ, zero, suc, inl, inr, ◌+◌, ◌-◌, ◌<◌, ◌≤◌, List, [], ◌∷◌, length, take, drop, Result, Ok, Err, refl, sym, ap, subst, ◌∙◌, arith}
use Rattle.std.proofs.lemmas.List.{take_at, take_all, append-nil, take-append-drop, length-append, length-drop}
use Rattle.bm_value.specs.declared.fault.DecodeError.{DecodeError}
use Rattle.bm_value.specs.declared.fault.DecodeError.TheVariants.{Truncated, Reserved, BadUtf8, TooDeep, Trailing, Mem}
use Rattle.bm_value.specs.Tree.{Tree, depth}
use Rattle.bm_value.specs.Reading.{Answer, Refuses, value_at}
use Rattle.bm_value.specs.Spelling.{Spells, PlainFails, FailsRow, Fails, FailsWithin}
use Rattle.bm_value.specs.Decoding.{Trails}
use Rattle.bm_value.specs.Row.{row}
use Rattle.bm_value.specs.declared.row.Plain.{Plain}
use Rattle.bm_value.specs.declared.row.Plain.TheVariants as plain
use Rattle.bm_value.specs.declared.row.Row.{Row}
use Rattle.bm_value.specs.declared.row.Row.TheVariants as rows
use Rattle.bm_value.proofs.Soundness.{Outcome, Found, value_outcome}
use Rattle.bm_value.proofs.Completeness.{Within, value_again, value_fails}

-- what was read at the front
pub record Front (bytes : List ℕ) (t : Tree) (rest : List ℕ) : Type 0 where
  pub shorter : length rest ≤ length bytes
  pub spelled : Spells (take (length bytes - length rest) bytes) t
  pub nests : depth t ≤ 32

pub front_of : (bytes : List ℕ) (t : Tree) (rest : List ℕ) → value_at 32 bytes ≡ Ok (t, rest) → Front bytes t rest
front_of bytes t rest e =
    let o = subst (λ r. Outcome (Found 32) (FailsWithin 32 bytes) bytes r) e (value_outcome 32 bytes) in
    let len : length bytes ≡ length o.0 + length rest = ap length o.1 ∙ length-append o.0 rest in
    let taken : length o.0 ≡ length bytes - length rest = omega (arith, len) in
    let same : take (length bytes - length rest) bytes ≡ o.0 = ap (λ (x : List ℕ). take (length bytes - length rest) x) o.1 ∙ take_at o.0 rest (length bytes - length rest) taken in
    record { shorter = omega (arith, len); spelled = subst (λ x. Spells x t) (sym same) o.2.0; nests = o.2.1 }

pub read_at : (bytes : List ℕ) (t : Tree) (n : ℕ) → n ≤ length bytes → Spells (take n bytes) t → depth t ≤ 32 → value_at 32 bytes ≡ Ok (t, drop n bytes)
read_at bytes t n le s d =
    ap (value_at 32) (sym (take-append-drop n bytes)) ∙ value_again t 32 (take n bytes) (drop n bytes) s d

abbrev answered : Tree × List ℕ → Answer Tree
answered x = Ok x

-- the same tree, and as many bytes
pub same_front : (bytes : List ℕ) (t u : Tree) (n : ℕ) (rest : List ℕ) → n ≤ length bytes → answered (u, rest) ≡ answered (t, drop n bytes) → (t ≡ u) × (n ≡ length bytes - length rest)
same_front bytes t u n rest le e =
    let p : (u, rest) ≡ (t, drop n bytes) = cc in
    (sym (ap (λ (x : Tree × List ℕ). x.0) p), omega (arith, ap (λ (x : Tree × List ℕ). length x.1) p, length-drop n bytes))

pub refused_ok : {X Y : Type 0} (e : DecodeError) (r : Result X DecodeError) (x : X) (y : Y) → r ≡ Ok x → Refuses e r → Refuses e (let o : Result Y DecodeError = Ok y in o)
refused_ok Truncated r x y is h = absurd cc
refused_ok Reserved r x y is h = absurd cc
refused_ok BadUtf8 r x y is h = absurd cc
refused_ok TooDeep r x y is h = absurd cc
refused_ok Trailing r x y is h = absurd cc
refused_ok Mem r x y is h = tt

pub refused_err : {X : Type 0} (Y : Type 0) (e f : DecodeError) (r : Result X DecodeError) → r ≡ Err f → Refuses e r → Refuses e (let o : Result Y DecodeError = Err f in o)
refused_err Y Truncated f r is h = let same : f ≡ Truncated = cc in ap (λ x. Err x) same
refused_err Y Reserved f r is h = let same : f ≡ Reserved = cc in ap (λ x. Err x) same
refused_err Y BadUtf8 f r is h = let same : f ≡ BadUtf8 = cc in ap (λ x. Err x) same
refused_err Y TooDeep f r is h = let same : f ≡ TooDeep = cc in ap (λ x. Err x) same
refused_err Y Trailing f r is h = let same : f ≡ Trailing = cc in ap (λ x. Err x) same
refused_err Y Mem f r is h = tt

pub fault_at : (bytes : List ℕ) (e : DecodeError) → value_at 32 bytes ≡ Err e → Fails bytes 0 e
fault_at bytes e is = subst (λ r. Outcome (Found 32) (FailsWithin 32 bytes) bytes r) is (value_outcome 32 bytes)

pub is_fault : (bytes : List ℕ) (e : DecodeError) → Refuses e (value_at 32 bytes) → e ≢ Mem → Fails bytes 0 e
is_fault bytes Truncated h ne = fault_at bytes Truncated h
is_fault bytes Reserved h ne = fault_at bytes Reserved h
is_fault bytes BadUtf8 h ne = fault_at bytes BadUtf8 h
is_fault bytes TooDeep h ne = fault_at bytes TooDeep h
is_fault bytes Trailing h ne = fault_at bytes Trailing h
is_fault bytes Mem h ne = absurd (ne refl)

pub no_fault : {X : Type 0} (bytes : List ℕ) (f : DecodeError) (x : Tree × List ℕ) → Fails bytes 0 f → value_at 32 bytes ≡ Ok x → X
no_fault bytes f x h e = let told = value_fails 32 bytes f h in absurd cc

pub fault_is : (bytes : List ℕ) (f : DecodeError) → Fails bytes 0 f → value_at 32 bytes ≡ Err f
fault_is bytes f h = value_fails 32 bytes f h

-- ---- all of the bytes

pub refused_after : {X : Type 0} (Y : Type 0) (e : DecodeError) (r : Result X DecodeError) (x : X) (out : Result Y DecodeError) → r ≡ Ok x → Refuses e r → Refuses e out
refused_after Y Truncated r x out is h = absurd cc
refused_after Y Reserved r x out is h = absurd cc
refused_after Y BadUtf8 r x out is h = absurd cc
refused_after Y TooDeep r x out is h = absurd cc
refused_after Y Trailing r x out is h = absurd cc
refused_after Y Mem r x out is h = tt

pub whole_at : (bytes : List ℕ) (t : Tree) → Spells bytes t → depth t ≤ 32 → value_at 32 bytes ≡ Ok (t, [])
whole_at bytes t s d = ap (value_at 32) (sym (append-nil bytes)) ∙ value_again t 32 bytes [] s d

pub trails_at : (bytes : List ℕ) → Trails bytes → (t : Tree) × (rest : List ℕ) × (value_at 32 bytes ≡ Ok (t, rest)) × (0 < length rest)
trails_at bytes h = (h.1, drop h.0 bytes, read_at bytes h.1 h.0 h.3.within h.3.spelled h.3.nests, omega (arith, length-drop h.0 bytes, h.2))

pub both_read : (bytes : List ℕ) (t u : Tree) (a b : List ℕ) → value_at 32 bytes ≡ Ok (t, a) → value_at 32 bytes ≡ Ok (u, b) → (t ≡ u) × (a ≡ b)
both_read bytes t u a b e f =
    let both : answered (t, a) ≡ answered (u, b) = sym e ∙ f in
    let p : (t, a) ≡ (u, b) = cc in
    (ap (λ (x : Tree × List ℕ). x.0) p, ap (λ (x : Tree × List ℕ). x.1) p)

pub trails_by : (bytes : List ℕ) (t : Tree) (rest : List ℕ) → value_at 32 bytes ≡ Ok (t, rest) → 0 < length rest → Trails bytes
trails_by bytes t rest e long =
    let f = front_of bytes t rest e in
    (length bytes - length rest, t, omega (arith, f.shorter), record { within = omega arith; spelled = f.spelled; nests = f.nests })

pub whole_by : (bytes : List ℕ) (t : Tree) (rest : List ℕ) → value_at 32 bytes ≡ Ok (t, rest) → length rest ≡ 0 → Spells bytes t × (depth t ≤ 32)
whole_by bytes t rest e none =
    let f = front_of bytes t rest e in
    (subst (λ x. Spells x t) (take_all (length bytes - length rest) bytes (omega arith)) f.spelled, f.nests)

plain_never : (p : Plain) (bytes : List ℕ) → PlainFails p bytes Trailing → ⊥
plain_never plain.Nil bytes h = h
plain_never (plain.Bool b) bytes h = h
plain_never (plain.Small z) bytes h = h
plain_never (plain.Unsigned w) bytes h = let e = h.1 in absurd cc
plain_never (plain.Signed w) bytes h = let e = h.1 in absurd cc
plain_never plain.Bits32 bytes h = let e = h.1 in absurd cc
plain_never plain.Bits64 bytes h = let e = h.1 in absurd cc
plain_never (plain.Str s) bytes (inl h) = let e = h.1 in absurd cc
plain_never (plain.Str s) bytes (inr h) = let e = h.6 in absurd cc
plain_never (plain.Bin s) bytes h = let e = h.1 in absurd cc
plain_never (plain.Ext s) bytes h = let e = h.1 in absurd cc

row_never_none : (r : Row) (bytes : List ℕ) → FailsRow r bytes Trailing (λ each s. Trailing ≡ TooDeep) → ⊥
row_never_none (rows.Plain p) bytes h = plain_never p bytes h
row_never_none (rows.Array s) bytes h = absurd cc
row_never_none (rows.Map s) bytes h = absurd cc
row_never_none rows.Reserved bytes h = absurd cc

row_never_some : (d : ℕ) (under : (bytes : List ℕ) → FailsWithin d bytes Trailing → ⊥) (r : Row) (bytes : List ℕ) → FailsRow r bytes Trailing (Within d bytes Trailing) → ⊥
row_never_some d under (rows.Plain p) bytes h = plain_never p bytes h
row_never_some d under (rows.Array s) bytes (inl h) = let e = h.1 in absurd cc
row_never_some d under (rows.Array s) bytes (inr h) = under h.2 h.10
row_never_some d under (rows.Map s) bytes (inl h) = let e = h.1 in absurd cc
row_never_some d under (rows.Map s) bytes (inr h) = under h.2 h.10
row_never_some d under rows.Reserved bytes h = absurd cc

-- no front of bytes fails by what stands behind it
pub never_trailing : (d : ℕ) (bytes : List ℕ) → FailsWithin d bytes Trailing → ⊥
never_trailing zero [] h = absurd cc
never_trailing zero (b ∷ bytes) h = row_never_none (row b) bytes h
never_trailing (suc d) [] h = absurd cc
never_trailing (suc d) (b ∷ bytes) h = row_never_some d (never_trailing d) (row b) bytes h

pub not_trailing : (bytes : List ℕ) → value_at 32 bytes ≡ Err Trailing → ⊥
not_trailing bytes e = never_trailing 32 bytes (fault_at bytes Trailing e)

pub is_trailing : (bytes : List ℕ) (e : DecodeError) → e ≡ Trailing → Refuses e (value_at 32 bytes) → ⊥
is_trailing bytes e is h = not_trailing bytes (subst (λ x. Refuses x (value_at 32 bytes)) is h)

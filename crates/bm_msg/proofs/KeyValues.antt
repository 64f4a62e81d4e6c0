-- What the values of a message's keys say, read one way and the other.
use Rattle.std.proofs.Common.{◌≡◌, refl, ◌∙◌, ap, ℕ, ◌<◌, ◌^◌, pos, negsuc, true, cond, List, Option, Some, None, arith}
use Rattle.std.specs.Prelude.{codes, nat_lt}
use Rattle.std.specs.Option.{option_and_then}
use Rattle.std.specs.Fmt.{decimal}
use Rattle.std.proofs.lemmas.Bool.Decides.{nat_tests}
use Rattle.std.proofs.lemmas.Option.{cond_some}
use Rattle.bm_value.specs.Tree.{Tree, nil, bool, int, bits32, bits64, str, bin, array, dict, ext, Trees, Pairs}
use Rattle.bm_value.specs.Field.{field}
use Rattle.bm_msg.specs.declared.field.Field.{Field}
use Rattle.bm_msg.specs.Items.{fields_of}
use Rattle.bm_msg.specs.Messages.{HasText, HasNumber, HasCommand, HasItems, HasFault}
use Rattle.bm_msg.specs.Reading.{str_of, seq_of, command_number, items_of, fault_of, text_at, number_at, command_at, items_at, fault_at}
use Rattle.bm_msg.proofs.Numerals.{command_number-decimal, command_number-only}

abbrev pub IsMap : Tree → Type 0
IsMap t = (pairs : Pairs) × (t ≡ dict pairs)

-- only a map has a field
pub map_from_field : (t : Tree) (key : List ℕ) (v : Tree) → field t key ≡ Some v → IsMap t
map_from_field (dict ps) key v h = (ps, refl)
map_from_field t key v h = absurd cc

-- ---- texts

str_of-only : (v : Tree) (s : List ℕ) → str_of v ≡ Some s → v ≡ str s
str_of-only (str s') s h = let same : s' ≡ s = cc in ap str same
str_of-only t s h = absurd cc

text_only : (o : Option Tree) (s : List ℕ) → option_and_then str_of o ≡ Some s → o ≡ Some (str s)
text_only None s h = absurd cc
text_only (Some v) s h = ap (λ t. Some t) (str_of-only v s h)

pub text_to : (t : Tree) (key s : List ℕ) → text_at t key ≡ Some s → HasText t key s
text_to t key s h = text_only (field t key) s h

pub text_from : (t : Tree) (key s : List ℕ) → HasText t key s → text_at t key ≡ Some s
text_from t key s h = ap (option_and_then str_of) h

-- ---- the number

below : (k n : ℕ) → cond (nat_lt k (2 ^ 63)) (Some k) None ≡ Some n → (k ≡ n) × (n < 2 ^ 63)
below k n h =
    let both = cond_some (nat_lt k (2 ^ 63)) k n h in
    let small : nat_lt k (2 ^ 63) ≡ true = both.0 in
    let same : k ≡ n = both.1 in
    (same, grind (arith, nat_tests))

seq_of-only : (v : Tree) (n : ℕ) → seq_of v ≡ Some n → (v ≡ int (pos n)) × (n < 2 ^ 63)
seq_of-only (int (pos k)) n h = let both = below k n h in (ap (λ k. int (pos k)) both.0, both.1)
seq_of-only t n h = absurd cc

number_only : (o : Option Tree) (n : ℕ) → option_and_then seq_of o ≡ Some n → (o ≡ Some (int (pos n))) × (n < 2 ^ 63)
number_only None n h = absurd cc
number_only (Some v) n h = let both = seq_of-only v n h in (ap (λ t. Some t) both.0, both.1)

pub number_to : (t : Tree) (n : ℕ) → number_at t ≡ Some n → HasNumber t n
number_to t n h = number_only (field t (codes "seq_number")) n h

pub number_from : (t : Tree) (n : ℕ) → HasNumber t n → number_at t ≡ Some n
number_from t n h =
    let small : n < 2 ^ 63 = h.1 in
    let fits : nat_lt n (2 ^ 63) ≡ true = grind (arith, nat_tests) in
    ap (option_and_then seq_of) h.0 ∙ ap (λ b. cond b (Some n) None) fits

-- ---- the command

command_only : (o : Option (List ℕ)) (k : ℕ) → option_and_then command_number o ≡ Some k → (o ≡ Some (decimal k)) × (k < 2 ^ 63)
command_only None k h = absurd cc
command_only (Some s) k h = let both = command_number-only s k h in (ap (λ s. Some s) both.0, both.1)

pub command_to : (t : Tree) (k : ℕ) → command_at t ≡ Some k → HasCommand t k
command_to t k h = let both = command_only (text_at t (codes "command_id")) k h in (text_to t (codes "command_id") (decimal k) both.0, both.1)

pub command_from : (t : Tree) (k : ℕ) → HasCommand t k → command_at t ≡ Some k
command_from t k h = ap (option_and_then command_number) (text_from t (codes "command_id") (decimal k) h.0) ∙ command_number-decimal k h.1

-- ---- the args of an update and of a complete

items_only : (o : Option Tree) (fs : List Field) → option_and_then items_of o ≡ Some fs → (ts : Trees) × (o ≡ Some (array ts)) × (fields_of ts ≡ Some fs)
items_only None fs h = absurd cc
items_only (Some (array ts)) fs h = (ts, refl, h)
items_only (Some v) fs h = absurd cc

pub items_to : (t : Tree) (fs : List Field) → items_at t ≡ Some fs → HasItems t fs
items_to t fs h = items_only (field t (codes "args")) fs h

pub items_from : (t : Tree) (fs : List Field) → HasItems t fs → items_at t ≡ Some fs
items_from t fs h = ap (option_and_then items_of) h.1 ∙ h.2

fault_only : (o : Option Tree) (s : List ℕ) → option_and_then fault_of o ≡ Some (Some s) → o ≡ Some (str s)
fault_only None s h = absurd cc
fault_only (Some (str s')) s h = let same : s' ≡ s = cc in ap (λ s. Some (str s)) same
fault_only (Some v) s h = absurd cc

no_fault_only : (o : Option Tree) → option_and_then fault_of o ≡ Some None → o ≡ Some nil
no_fault_only None h = absurd cc
no_fault_only (Some nil) h = refl
no_fault_only (Some v) h = absurd cc

pub fault_to : (t : Tree) (f : Option (List ℕ)) → fault_at t ≡ Some f → HasFault t f
fault_to t None h = no_fault_only (field t (codes "args")) h
fault_to t (Some s) h = fault_only (field t (codes "args")) s h

pub fault_from : (t : Tree) (f : Option (List ℕ)) → HasFault t f → fault_at t ≡ Some f
fault_from t None h = ap (option_and_then fault_of) h
fault_from t (Some s) h = ap (option_and_then fault_of) h

-- Decimal numerals of commands.
use Rattle.std.proofs.Common.{◌≡◌, ◌≢◌, refl, sym, ◌∙◌, ap, ℕ, zero, suc, ◌<◌, ◌≤◌, ◌^◌, Bool, true, false, cond, not, ◌&&◌, ◌||◌, List, [], ◌∷◌, length, get_or, Some, None, Result, Ok, Err, arith, lit<}
use Rattle.std.specs.Prelude.{◌==◌, nat_lt, slice_index}
use Rattle.std.specs.Fmt.{decimal}
use Rattle.std.specs.Str.{all_ascii_digits}
use Rattle.std.specs.Str.Parse.{digits_value, ParsesUnsigned}
use Rattle.std.specs.Bool.{Decides}
use Rattle.std.proofs.lemmas.Result.{OkIff-at_ok, OkIff-at_err}
use Rattle.std.specs.Int.{IsInRange}
use Rattle.std.proofs.lemmas.Bool.Decides.{nat_tests}
use Rattle.std.proofs.lemmas.Str.Parse.{IsNumeralModel, numerals_by_value, tells_all_ascii_digits, parse_plain}
use Rattle.std.proofs.lemmas.Fmt.{digits_decimal, digits_value-decimal, decimal_nonempty, first_decimal, decimal_digit, decimal-digits_value}
use Rattle.bm_msg.specs.Reading.{is_numeral, command_number}

pub numerals : IsNumeralModel (λ ds. all_ascii_digits ds ≡ true) (digits_value 10)
numerals = numerals_by_value (λ ds. all_ascii_digits ds ≡ true) tells_all_ascii_digits

-- digits, and no 0 in front of others
pub record IsPlain (s : List ℕ) : Type 0 where
  pub digits : all_ascii_digits s ≡ true
  pub some : 0 < length s
  pub no_zero : get_or s 0 0 ≡ 48 → length s ≡ 1

numeral_from : (a b c d : Bool) → a ≡ true → b ≡ true → (c ≡ true → d ≡ true) → (a && b && (not c || d)) ≡ true
numeral_from true true true true p q r = refl
numeral_from true true true false p q r = absurd (let h : false ≡ true = r refl in cc)
numeral_from true true false d p q r = refl
numeral_from true false c d p q r = absurd cc
numeral_from false b c d p q r = absurd cc

numeral_parts : (a b c d : Bool) → (a && b && (not c || d)) ≡ true → (a ≡ true) × (b ≡ true) × (c ≡ true → d ≡ true)
numeral_parts true true true true h = (refl, refl, λ _. refl)
numeral_parts true true true false h = absurd cc
numeral_parts true true false d h = (refl, refl, λ e. absurd cc)
numeral_parts true false c d h = absurd cc
numeral_parts false b c d h = absurd cc

pub is_numeral-plain : (s : List ℕ) → IsPlain s → is_numeral s ≡ true
is_numeral-plain s p = numeral_from (nat_lt 0 (length s)) (all_ascii_digits s) (slice_index s 0 == 48) (length s == 1) (grind (arith, nat_tests, p.some)) p.digits
    (λ e. let first : get_or s 0 0 ≡ 48 = grind (arith, nat_tests) in let one : length s ≡ 1 = p.no_zero first in grind (arith, nat_tests))

pub plain_from : (s : List ℕ) → is_numeral s ≡ true → IsPlain s
plain_from s h =
    let parts = numeral_parts (nat_lt 0 (length s)) (all_ascii_digits s) (slice_index s 0 == 48) (length s == 1) h in
    let some : nat_lt 0 (length s) ≡ true = parts.0 in
    record {
      digits = parts.1;
      some = grind (arith, nat_tests);
      no_zero = λ z. let first : (slice_index s 0 == 48) ≡ true = grind (arith, nat_tests) in let one : (length s == 1) ≡ true = parts.2 first in grind (arith, nat_tests);
    }

pub command_number-some : (s : List ℕ) → IsPlain s → digits_value 10 s < 2 ^ 63 → command_number s ≡ Some (digits_value 10 s)
unfolding command_number
command_number-some s p small =
    let fits : nat_lt (digits_value 10 s) (2 ^ 63) ≡ true = grind (arith, nat_tests) in
    ap (λ b. cond (b && nat_lt (digits_value 10 s) (2 ^ 63)) (Some (digits_value 10 s)) None) (is_numeral-plain s p) ∙ ap (λ b. cond b (Some (digits_value 10 s)) None) fits

pub command_number-none : (s : List ℕ) → (IsPlain s → digits_value 10 s < 2 ^ 63 → ⊥) → command_number s ≡ None
unfolding command_number
command_number-none s never = go (is_numeral s) refl (nat_lt (digits_value 10 s) (2 ^ 63)) refl
  where
    go : (a : Bool) → is_numeral s ≡ a → (b : Bool) → nat_lt (digits_value 10 s) (2 ^ 63) ≡ b → cond (a && b) (Some (digits_value 10 s)) None ≡ None
    go true p true q = absurd (never (plain_from s p) (grind (arith, nat_tests)))
    go true p false q = refl
    go false p b q = refl

-- the number of a command and its numeral
pub command_number-decimal : (k : ℕ) → k < 2 ^ 63 → command_number (decimal k) ≡ Some k
command_number-decimal k small =
    let wide : k < 2 ^ 64 = omega arith in
    let value : digits_value 10 (decimal k) ≡ k = digits_value-decimal numerals k wide in
    let plain : IsPlain (decimal k) = record {
      digits = digits_decimal numerals k wide;
      some = decimal_nonempty k wide;
      no_zero = λ z. zero_alone k wide z;
    } in
    command_number-some (decimal k) plain (omega arith) ∙ ap (λ n. Some n) value
  where
    zero_alone : (k : ℕ) → k < 2 ^ 64 → get_or (decimal k) 0 0 ≡ 48 → length (decimal k) ≡ 1
    zero_alone zero wide z = ap length (decimal_digit 0 (lit< tt))
    zero_alone (suc k) wide z = absurd (omega (arith, first_decimal (suc k) (omega arith) wide))

pub command_number-only : (s : List ℕ) (k : ℕ) → command_number s ≡ Some k → (s ≡ decimal k) × (k < 2 ^ 63)
unfolding command_number
command_number-only s k h = go (is_numeral s) refl (nat_lt (digits_value 10 s) (2 ^ 63)) refl h
  where
    go : (a : Bool) → is_numeral s ≡ a → (b : Bool) → nat_lt (digits_value 10 s) (2 ^ 63) ≡ b → cond (a && b) (Some (digits_value 10 s)) None ≡ Some k → (s ≡ decimal k) × (k < 2 ^ 63)
    go true p true q e =
        let plain = plain_from s p in
        let value : digits_value 10 s ≡ k = cc in
        let small : digits_value 10 s < 2 ^ 63 = grind (arith, nat_tests) in
        (sym (decimal-digits_value numerals s plain.digits plain.some plain.no_zero (omega arith)) ∙ ap decimal value, omega arith)
    go true p false q e = absurd cc
    go false p b q e = absurd cc

first_digit : (s : List ℕ) → IsPlain s → IsInRange 48 57 (get_or s 0 0)
first_digit [] p = absurd (omega (arith, p.some))
first_digit (c ∷ cs) p = (tells_all_ascii_digits.parts c cs p.digits).0

-- ---- what `parse` says

pub no_sign : (s : List ℕ) (r : Bool) → Decides r (get_or s 0 0 ≡ 43) → r ≡ true → command_number s ≡ None
no_sign s r d h = command_number-none s (λ p small. let first = first_digit s p in let sign : get_or s 0 0 ≡ 43 = d.0 h in absurd (omega (arith, first.0, first.1)))

pub no_zeros : (s : List ℕ) (r : Bool) → Decides r (get_or s 0 0 ≡ 48) → 1 < length s → r ≡ true → command_number s ≡ None
no_zeros s r d long h = command_number-none s (λ p small. let one : length s ≡ 1 = p.no_zero (d.0 h) in absurd (omega arith))

pub number_parsed : {E : Type 0} (s : List ℕ) (r : Result ℕ E) (n : ℕ) → ParsesUnsigned 64 10 s r → get_or s 0 0 ≢ 43 → (get_or s 0 0 ≡ 48 → length s ≤ 1) → r ≡ Ok n → n < 2 ^ 63 → command_number s ≡ Some n
number_parsed s r n parses no_plus no_zero is small =
    let all = OkIff-at_ok r _ _ n (parse_plain numerals 64 s r parses no_plus) is in
    let some : 0 < length s = all.0.1 in
    let value : n ≡ digits_value 10 s = all.1 in
    let plain : IsPlain s = record { digits = all.0.0; some = some; no_zero = λ z. let short : length s ≤ 1 = no_zero z in omega arith } in
    command_number-some s plain (omega arith) ∙ ap (λ k. Some k) (sym value)

pub too_large : {E : Type 0} (s : List ℕ) (r : Result ℕ E) (n : ℕ) → ParsesUnsigned 64 10 s r → get_or s 0 0 ≢ 43 → r ≡ Ok n → 2 ^ 63 ≤ n → command_number s ≡ None
too_large s r n parses no_plus is large =
    let all = OkIff-at_ok r _ _ n (parse_plain numerals 64 s r parses no_plus) is in
    let value : n ≡ digits_value 10 s = all.1 in
    command_number-none s (λ p small. absurd (omega arith))

pub not_parsed : {E : Type 0} (s : List ℕ) (r : Result ℕ E) (e : E) → ParsesUnsigned 64 10 s r → get_or s 0 0 ≢ 43 → r ≡ Err e → command_number s ≡ None
not_parsed s r e parses no_plus is =
    let never = OkIff-at_err r _ _ e (parse_plain numerals 64 s r parses no_plus) is in
    command_number-none s (λ p small. let wide : digits_value 10 s < 2 ^ 64 = omega arith in never (p.digits, p.some, wide))

pub not_either : {P : Type 0} {r : Bool} → Decides r P → r ≡ false → P → ⊥
not_either d h p = let yes = d.1 p in cc

-- A value by its first byte.
use Rattle.std.proofs.Common.{◌≡◌, ℕ, false, ltb, List, [], ◌∷◌, length, Result, Ok, Err, refl, sym, ap, subst, ◌∙◌, arith}
use Rattle.std.specs.Int.{w8, from_be_bytes}
use Rattle.std.proofs.lemmas.Bool.{le-ltb}
use Rattle.bm_value.specs.declared.fault.DecodeError.{DecodeError}
use Rattle.bm_value.specs.declared.fault.DecodeError.TheVariants.{Truncated, Reserved, BadUtf8, TooDeep, Trailing, Mem}
use Rattle.bm_value.specs.declared.row.Row.{Row}
use Rattle.bm_value.specs.declared.row.Row.TheVariants as rows
use Rattle.bm_value.specs.Row.{row}
use Rattle.bm_value.specs.Tree.{Tree}
use Rattle.bm_value.specs.Reading.{Answer, Gives, Refuses, number_at, value_at, row_with, inner}
use Rattle.bm_value.proofs.Fronts.{refused_after}
use Rattle.bm_value.proofs.Loops.{refused-along}
use Rattle.bm_value.proofs.Values.{value_at-is}

first_at : (b : ℕ) (bytes : List ℕ) → number_at w8 (b ∷ bytes) ≡ Ok (b, bytes)
first_at b bytes =
    let long : ltb (length (b ∷ bytes)) 1 ≡ false = le-ltb _ _ (omega arith) in
    let same : from_be_bytes w8 (b ∷ []) ≡ b = omega arith in
    rw long (ap (λ (k : ℕ). Ok (k, bytes)) same)

none_at : number_at w8 [] ≡ Err Truncated
none_at = refl

abbrev answered : ℕ × List ℕ → Answer ℕ
answered x = Ok x

by_first : (room : ℕ) (bytes : List ℕ) (b : ℕ) (rest : List ℕ) → number_at w8 bytes ≡ Ok (b, rest) → value_at room bytes ≡ row_with (inner room) (row b) rest
by_first room [] b rest h = let none = none_at in absurd cc
by_first room (x ∷ bytes) b rest h =
    let both : answered (x, bytes) ≡ answered (b, rest) = sym (first_at x bytes) ∙ h in
    let same : (x, bytes) ≡ (b, rest) = cc in
    value_at-is room (x ∷ bytes) ∙ ap (λ (p : ℕ × List ℕ). row_with (inner room) (row p.0) p.1) same

-- what stands behind the first byte is read by its row
pub gives_by_first : {X : Type 0} (view : X → Tree × List ℕ) (out : Result X DecodeError) (room : ℕ) (bytes : List ℕ) (b : ℕ) (rest : List ℕ) (r : Row) → number_at w8 bytes ≡ Ok (b, rest) → r ≡ row b
    → Gives view out (row_with (inner room) r rest) → Gives view out (value_at room bytes)
gives_by_first view out room bytes b rest r h is given =
    subst (λ x. Gives view out x) (ap (λ (k : Row). row_with (inner room) k rest) is ∙ sym (by_first room bytes b rest h)) given

truncated : (X Y : Type 0) (e : DecodeError) → Refuses e (let r : Answer X = Err Truncated in r) → Refuses e (let r : Answer Y = Err Truncated in r)
truncated X Y Truncated h = refl
truncated X Y Reserved h = absurd cc
truncated X Y BadUtf8 h = absurd cc
truncated X Y TooDeep h = absurd cc
truncated X Y Trailing h = absurd cc
truncated X Y Mem h = tt

-- where there is no first byte, there is no value
pub no_first : (room : ℕ) (bytes : List ℕ) (e : DecodeError) → Refuses e (number_at w8 bytes) → Refuses e (value_at room bytes)
no_first room [] e h = refused-along e _ _ (sym (value_at-is room [])) (truncated ℕ Tree e h)
no_first room (b ∷ bytes) e h = refused_after (Tree × List ℕ) e (number_at w8 (b ∷ bytes)) (b, bytes) (value_at room (b ∷ bytes)) (first_at b bytes) h

-- the byte that the format never uses
pub reserved_by_first : (room : ℕ) (bytes : List ℕ) (b : ℕ) (rest : List ℕ) → number_at w8 bytes ≡ Ok (b, rest) → rows.Reserved ≡ row b → value_at room bytes ≡ Err Reserved
reserved_by_first room bytes b rest h is = by_first room bytes b rest h ∙ ap (λ (k : Row). row_with (inner room) k rest) (sym is)

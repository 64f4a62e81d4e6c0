-- What a split at the first space finds, and which bytes are a text.
use Rattle.std.proofs.Common.{◌≡◌, sym, refl, ℕ, suc, ◌+◌, List, [], ◌∷◌, length, Option, Some, None, Bool, true, false, not, cond, ◌||◌, arith}
use Rattle.std.specs.List.{list_any, position_or_len}
use Rattle.std.specs.Str.{IsUtf8}
use Rattle.std.proofs.lemmas.Bool.{cond-true, cond-false, false_from_ne_true}
use Rattle.std.proofs.lemmas.Str.{IsUtf8-from_is_utf8, is_utf8-from_IsUtf8}
use Rattle.std.proofs.lemmas.Str.Pattern.{IsSplitOnceResult, split_once_first}
use Rattle.bm_lines.specs.Names.{stdio}
use Rattle.bm_replay.specs.Script.{is_space, name_behind, text_in}

step-none : (b any : Bool) (n m : ℕ) → (n ≡ m → any ≡ false) → cond (not b) (1 + n) 0 ≡ suc m → (b || any) ≡ false
step-none true any n m h e = absurd (omega (arith, e))
step-none false any n m h e = h (omega (arith, e))

any-none : (p : ℕ → Bool) (xs : List ℕ) → position_or_len p xs ≡ length xs → list_any p xs ≡ false
any-none p [] e = refl
any-none p (x ∷ xs) e = step-none (p x) (list_any p xs) (position_or_len p xs) (length xs) (any-none p xs) e

-- takes the clause of `split_once` at a space
pub name-none : (text : List ℕ) → IsSplitOnceResult 32 text None → stdio ≡ name_behind text
name-none text h = sym (cond-false _ _ _ (any-none is_space text (split_once_first 32 text None h (omega arith))))

pub is-text : (bs : List ℕ) → IsUtf8 bs → text_in bs ≡ Some bs
is-text bs h = cond-true _ _ _ (is_utf8-from_IsUtf8 bs h)

pub no-text : (bs : List ℕ) → (IsUtf8 bs → ⊥) → text_in bs ≡ None
no-text bs h = cond-false _ _ _ (false_from_ne_true _ (λ e. h (IsUtf8-from_is_utf8 bs e)))

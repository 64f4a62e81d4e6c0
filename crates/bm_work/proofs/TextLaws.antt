-- The texts that bytes are cut into are the bytes, and each ends where it must.
use Rattle.std.proofs.Common.{◌≡◌, ◌≢◌, ℕ, ◌+◌, ◌==◌, ◌||◌, Bool, true, false, List, [], ◌∷◌, ◌++◌, length, if◌then◌else◌, All, ◌⊎◌, inl, inr, refl, sym, ap, ◌∙◌, arith, append_assoc}
use Rattle.std.proofs.lemmas.List.{append-nil}
use Rattle.std.proofs.lemmas.List.Elements.{All-nil, All-cons, All-push}
use Rattle.std.proofs.lemmas.Bool.Decides.{nat_tests}
use Rattle.std.specs.List.{concat}
use Rattle.bm_work.specs.Cuts.{ends_text, texts_after, left_after, texts_of, left_of}
use Rattle.bm_work.specs.TextLaws.{IsPartOfLine, IsText, TextsAreTheBytes, TextsEndWhereTheyMust, PiecesPlayNoPart}
use Rattle.bm_work.proofs.Pieces.{texts_after-append, left_after-append, ends_text-short, or-first, length-push, unended-left, unended-empty, texts_of-kept, left_of-kept}

joined : (line bytes : List ℕ) → concat (texts_after line bytes) ++ left_after line bytes ≡ line ++ bytes
joined line [] = sym (append-nil line)
joined line (b ∷ bs) =
    elim (ends_text line b) as (λ t. concat (if t then (line ++ b ∷ []) ∷ texts_after [] bs else texts_after (line ++ b ∷ []) bs) ++ (if t then left_after [] bs else left_after (line ++ b ∷ []) bs) ≡ line ++ b ∷ bs) [
      | true ↦ append_assoc (line ++ b ∷ []) (concat (texts_after [] bs)) (left_after [] bs) ∙ (ap (λ rest. (line ++ b ∷ []) ++ rest) (joined [] bs) ∙ append_assoc line (b ∷ []) bs)
      | false ↦ joined (line ++ b ∷ []) bs ∙ append_assoc line (b ∷ []) bs
    ]

pub texts_are_the_bytes : TextsAreTheBytes
texts_are_the_bytes bytes = joined [] bytes

-- the same of bytes that follow a part of a line
abbrev EndsAfter : List ℕ → List ℕ → Type 0
EndsAfter line bytes = All IsText (texts_after line bytes) × IsPartOfLine (left_after line bytes)

part-push : (line : List ℕ) (b : ℕ) → IsPartOfLine line → ends_text line b ≡ false → IsPartOfLine (line ++ b ∷ [])
part-push line b h plain =
    let not_end : (b == 10) ≡ false = or-first (b == 10) (length line + 1 == 16384) plain in
    let other : b ≢ 10 = grind (arith, nat_tests) in
    record {
      within_line = All-push (λ x. x ≢ 10) line b h.within_line other;
      short = ends_text-short line b h.short plain;
    }

or-one : (a b : Bool) → (a || b) ≡ true → (a ≡ true) ⊎ (b ≡ true)
or-one true b e = inl refl
or-one false b e = inr e

text-ended : (line : List ℕ) (b : ℕ) → ((b == 10) ≡ true) ⊎ ((length line + 1 == 16384) ≡ true) → (b ≡ 10) ⊎ (length (line ++ b ∷ []) ≡ 16384)
text-ended line b (inl e) = inl (grind (arith, nat_tests))
text-ended line b (inr e) = let one : length (line ++ b ∷ []) ≡ length line + 1 = length-push line b (length line) refl in inr (grind (arith, nat_tests))

text-push : (line : List ℕ) (b : ℕ) → IsPartOfLine line → ends_text line b ≡ true → IsText (line ++ b ∷ [])
text-push line b h ends = record { line = line; last = b; whole = refl; part = h; ended = text-ended line b (or-one (b == 10) (length line + 1 == 16384) ends) }

part-none : IsPartOfLine []
part-none = record { within_line = All-nil (λ x. x ≢ 10); short = omega arith }

ends-first : (line : List ℕ) (b : ℕ) (bs : List ℕ) → IsPartOfLine line → (t : Bool) → ends_text line b ≡ t → EndsAfter [] bs → (IsPartOfLine (line ++ b ∷ []) → EndsAfter (line ++ b ∷ []) bs) → EndsAfter line (b ∷ bs)
ends-first line b bs h true ends after_text after_part = rw ends (All-cons IsText (line ++ b ∷ []) (texts_after [] bs) (text-push line b h ends) after_text.0, after_text.1)
ends-first line b bs h false plain after_text after_part = rw plain (after_part (part-push line b h plain))

ended : (line bytes : List ℕ) → IsPartOfLine line → EndsAfter line bytes
ended line [] h = (All-nil IsText, h)
ended line (b ∷ bs) h = ends-first line b bs h (ends_text line b) refl (ended [] bs part-none) (λ part. ended (line ++ b ∷ []) bs part)

pub texts_end_where_they_must : TextsEndWhereTheyMust
texts_end_where_they_must bytes = ended [] bytes part-none

pub pieces_play_no_part : PiecesPlayNoPart
pieces_play_no_part first second =
    let left = unended-left [] first unended-empty in (
      texts_after-append [] first second ∙ ap (λ ts. texts_of first ++ ts) (sym (texts_of-kept (left_of first) second left)),
      left_after-append [] first second ∙ sym (left_of-kept (left_of first) second left),
    )

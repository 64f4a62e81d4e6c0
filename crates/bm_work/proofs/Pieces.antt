-- How bytes are cut does not depend on the pieces in which they come.
use Rattle.std.proofs.Common.{◌≡◌, ℕ, suc, ◌+◌, ◌<◌, ◌==◌, ◌||◌, Bool, true, false, List, [], ◌∷◌, ◌++◌, length, take, drop, Option, Some, None, option_map, if◌then◌else◌, refl, sym, ap, ◌∙◌, arith, append_assoc, length-append, add-one, subst}
use Rattle.std.proofs.lemmas.List.{append-nil}
use Rattle.std.proofs.lemmas.Bool.Decides.{nat_tests}
use Rattle.bm_work.specs.Cuts.{first_end, ends_text, texts_after, left_after, texts_of, left_of, shown}
use Rattle.std.specs.Str.Lossy.{utf8_lossy}
use Rattle.bm_work.specs.Assembling.{IsUnended}

pub texts_after-append : (line a b : List ℕ) → texts_after line (a ++ b) ≡ texts_after line a ++ texts_after (left_after line a) b
texts_after-append line [] b = refl
texts_after-append line (x ∷ xs) b =
    elim (ends_text line x) as (λ e. (if e then (line ++ x ∷ []) ∷ texts_after [] (xs ++ b) else texts_after (line ++ x ∷ []) (xs ++ b)) ≡ (if e then (line ++ x ∷ []) ∷ texts_after [] xs else texts_after (line ++ x ∷ []) xs) ++ texts_after (if e then left_after [] xs else left_after (line ++ x ∷ []) xs) b) [
      | true ↦ ap (λ ts. (line ++ x ∷ []) ∷ ts) (texts_after-append [] xs b)
      | false ↦ texts_after-append (line ++ x ∷ []) xs b
    ]

pub left_after-append : (line a b : List ℕ) → left_after line (a ++ b) ≡ left_after (left_after line a) b
left_after-append line [] b = refl
left_after-append line (x ∷ xs) b =
    elim (ends_text line x) as (λ e. (if e then left_after [] (xs ++ b) else left_after (line ++ x ∷ []) (xs ++ b)) ≡ left_after (if e then left_after [] xs else left_after (line ++ x ∷ []) xs) b) [
      | true ↦ left_after-append [] xs b
      | false ↦ left_after-append (line ++ x ∷ []) xs b
    ]

-- no text ends in the bytes after the line
pub record IsUncut (line bs : List ℕ) : Type 0 where
  pub texts : texts_after line bs ≡ []
  pub left : left_after line bs ≡ line ++ bs

-- the first text ends after n of the bytes after the line
pub record IsCutAt (line bs : List ℕ) (n : ℕ) : Type 0 where
  pub texts : texts_after line bs ≡ (line ++ take n bs) ∷ texts_after [] (drop n bs)
  pub left : left_after line bs ≡ left_after [] (drop n bs)

is_uncut-step : (line : List ℕ) (b : ℕ) (bs : List ℕ) → ends_text line b ≡ false → IsUncut (line ++ b ∷ []) bs → IsUncut line (b ∷ bs)
is_uncut-step line b bs plain h =
    record { texts = rw plain h.texts; left = rw plain (h.left ∙ append_assoc line (b ∷ []) bs) }

is_cut_at-step : (line : List ℕ) (b : ℕ) (bs : List ℕ) (n : ℕ) → ends_text line b ≡ false → IsCutAt (line ++ b ∷ []) bs n → IsCutAt line (b ∷ bs) (suc n)
is_cut_at-step line b bs n plain h =
    record {
      texts = rw plain (h.texts ∙ ap (λ t. t ∷ texts_after [] (drop n bs)) (append_assoc line (b ∷ []) (take n bs)));
      left = rw plain h.left;
    }

is_cut_at-here : (line : List ℕ) (b : ℕ) (bs : List ℕ) → ends_text line b ≡ true → IsCutAt line (b ∷ bs) 1
is_cut_at-here line b bs ends = record { texts = rw ends refl; left = rw ends refl }

pub length-push : (line : List ℕ) (b k : ℕ) → length line ≡ k → length (line ++ b ∷ []) ≡ k + 1
length-push line b k e = omega (arith, length-append line (b ∷ []))

-- what `first_end` finds, for the line that it counted
IsEnd : List ℕ → List ℕ → Option ℕ → Type 0
IsEnd line bs None = IsUncut line bs
IsEnd line bs (Some n) = IsCutAt line bs n

is_end-later : (line : List ℕ) (b : ℕ) (bs : List ℕ) (o : Option ℕ) → ends_text line b ≡ false → IsEnd (line ++ b ∷ []) bs o → IsEnd line (b ∷ bs) (option_map (λ n. n + 1) o)
unfolding IsEnd
is_end-later line b bs None plain h = is_uncut-step line b bs plain h
is_end-later line b bs (Some n) plain h = rw (add-one n) (is_cut_at-step line b bs n plain h)

is_end-first : (k : ℕ) (line : List ℕ) (b : ℕ) (bs : List ℕ) → ((b == 10) || (k + 1 == 16384)) ≡ ends_text line b → (t : Bool) → ends_text line b ≡ t → IsEnd (line ++ b ∷ []) bs (first_end (k + 1) bs) → IsEnd line (b ∷ bs) (first_end k (b ∷ bs))
unfolding IsEnd
is_end-first k line b bs same true ends later = rw (same, ends) (is_cut_at-here line b bs ends)
is_end-first k line b bs same false plain later = rw (same, plain) (is_end-later line b bs (first_end (k + 1) bs) plain later)

is_end : (k : ℕ) (line bs : List ℕ) → length line ≡ k → IsEnd line bs (first_end k bs)
unfolding IsEnd
is_end k line [] l = record { texts = refl; left = sym (append-nil line) }
is_end k line (b ∷ bs) l =
    let later = is_end (k + 1) (line ++ b ∷ []) bs (length-push line b k l) in
    let same : ((b == 10) || (k + 1 == 16384)) ≡ ends_text line b = ap (λ n. (b == 10) || (n + 1 == 16384)) (sym l) in
    is_end-first k line b bs same (ends_text line b) refl later

pub is_uncut : (k : ℕ) (line bs : List ℕ) → length line ≡ k → first_end k bs ≡ None → IsUncut line bs
unfolding IsEnd
is_uncut k line bs l e = subst (IsEnd line bs) e (is_end k line bs l)

pub is_cut_at : (k : ℕ) (line bs : List ℕ) (n : ℕ) → length line ≡ k → first_end k bs ≡ Some n → IsCutAt line bs n
unfolding IsEnd
is_cut_at k line bs n l e = subst (IsEnd line bs) e (is_end k line bs l)

pub or-first : (a b : Bool) → (a || b) ≡ false → a ≡ false
or-first true b e = cc
or-first false b e = refl

or-second : (a b : Bool) → (a || b) ≡ false → b ≡ false
or-second true b e = cc
or-second false b e = e

pub ends_text-short : (line : List ℕ) (b : ℕ) → length line < 16384 → ends_text line b ≡ false → length (line ++ b ∷ []) < 16384
ends_text-short line b short plain =
    let other : (length line + 1 == 16384) ≡ false = or-second (b == 10) (length line + 1 == 16384) plain in
    let one : length (line ++ b ∷ []) ≡ length line + 1 = length-push line b (length line) refl in
    grind (arith, nat_tests)

unended-push : (line : List ℕ) (b : ℕ) → IsUnended line → ends_text line b ≡ false → IsUnended (line ++ b ∷ [])
unended-push line b h plain =
    record {
      no_text = texts_after-append [] line (b ∷ []) ∙ (rw (h.no_text, h.all_left, plain) refl);
      all_left = left_after-append [] line (b ∷ []) ∙ (rw (h.all_left, plain) refl);
      short = ends_text-short line b h.short plain;
    }

-- by whether the first byte ends a text
unended-first : (line : List ℕ) (b : ℕ) → IsUnended line → (t : Bool) → ends_text line b ≡ t → IsUnended (if t then [] else line ++ b ∷ [])
unended-first line b h true ends = record { no_text = refl; all_left = refl; short = omega arith }
unended-first line b h false plain = unended-push line b h plain

left_after-first : (line : List ℕ) (b : ℕ) (bs : List ℕ) → left_after line (b ∷ bs) ≡ left_after (if ends_text line b then [] else line ++ b ∷ []) bs
left_after-first line b bs = elim (ends_text line b) as (λ t. (if t then left_after [] bs else left_after (line ++ b ∷ []) bs) ≡ left_after (if t then [] else line ++ b ∷ []) bs) [ true ↦ refl | false ↦ refl ]

-- no text ends in what is left
pub unended-left : (line bs : List ℕ) → IsUnended line → IsUnended (left_after line bs)
unended-left line [] h = h
unended-left line (b ∷ bs) h =
    subst IsUnended (sym (left_after-first line b bs)) (unended-left (if ends_text line b then [] else line ++ b ∷ []) bs (unended-first line b h (ends_text line b) refl))

-- bytes after kept ones
pub texts_of-kept : (kept piece : List ℕ) → IsUnended kept → texts_of (kept ++ piece) ≡ texts_after kept piece
texts_of-kept kept piece h = texts_after-append [] kept piece ∙ (rw (h.no_text, h.all_left) refl)

pub left_of-kept : (kept piece : List ℕ) → IsUnended kept → left_of (kept ++ piece) ≡ left_after kept piece
left_of-kept kept piece h = left_after-append [] kept piece ∙ (rw h.all_left refl)

-- one more text at the front of the bytes
pub shown-more : (texts : List (List ℕ)) (text bytes : List ℕ) (n : ℕ) → text ≡ utf8_lossy (take n bytes) → first_end 0 bytes ≡ Some n → (texts ++ text ∷ []) ++ shown (texts_after [] (drop n bytes)) ≡ texts ++ shown (texts_after [] bytes)
shown-more texts text bytes n e end =
    let cut = is_cut_at 0 [] bytes n refl end in
    append_assoc texts (text ∷ []) (shown (texts_after [] (drop n bytes)))
    ∙ (ap (λ t. texts ++ t ∷ shown (texts_after [] (drop n bytes))) e ∙ ap (λ ts. texts ++ shown ts) (sym cut.texts))

pub left-more : (bytes : List ℕ) (n : ℕ) → first_end 0 bytes ≡ Some n → left_after [] (drop n bytes) ≡ left_after [] bytes
left-more bytes n end = sym (is_cut_at 0 [] bytes n refl end).left

-- the texts and what is left, where none ends
pub none-texts : (kept piece : List ℕ) → IsUnended kept → first_end (length kept) piece ≡ None → [] ≡ shown (texts_of (kept ++ piece))
none-texts kept piece h end =
    let uncut = is_uncut (length kept) kept piece refl end in
    sym (ap shown (texts_of-kept kept piece h ∙ uncut.texts))

pub none-left : (kept piece : List ℕ) → IsUnended kept → first_end (length kept) piece ≡ None → kept ++ piece ≡ left_of (kept ++ piece)
none-left kept piece h end = sym (left_of-kept kept piece h ∙ (is_uncut (length kept) kept piece refl end).left)

pub none-unended : (kept piece : List ℕ) → IsUnended kept → first_end (length kept) piece ≡ None → IsUnended (kept ++ piece)
none-unended kept piece h end =
    subst IsUnended (is_uncut (length kept) kept piece refl end).left (unended-left kept piece h)

-- the texts and what is left, where the first ends after n bytes
pub some-texts : (kept piece : List ℕ) (n : ℕ) → IsUnended kept → first_end (length kept) piece ≡ Some n → utf8_lossy (kept ++ take n piece) ∷ shown (texts_after [] (drop n piece)) ≡ shown (texts_of (kept ++ piece))
some-texts kept piece n h end =
    sym (ap shown (texts_of-kept kept piece h ∙ (is_cut_at (length kept) kept piece n refl end).texts))

pub some-left : (kept piece : List ℕ) (n : ℕ) → IsUnended kept → first_end (length kept) piece ≡ Some n → left_after [] (drop n piece) ≡ left_of (kept ++ piece)
some-left kept piece n h end =
    sym (left_of-kept kept piece h ∙ (is_cut_at (length kept) kept piece n refl end).left)

pub unended-empty : IsUnended []
unended-empty = record { no_text = refl; all_left = refl; short = omega arith }

-- Whole lines of at most 16,384 bytes together, and the longest piece of a line, are shown at once.
use Rattle.std.proofs.Common.{◌≡◌, refl, sym, ap, ◌∙◌, subst, inr, ℕ, suc, ◌+◌, ◌<◌, ◌≤◌, ◌==◌, ◌||◌, Bool, true, false, List, [], ◌∷◌, ◌++◌, length, take, drop, get_or, Some, None, if◌then◌else◌, append_assoc, length-append, arith}
use Rattle.std.specs.List.{flat_map}
use Rattle.std.specs.Str.Lossy.{utf8_lossy}
use Rattle.std.proofs.lemmas.Bool.Decides.{nat_tests}
use Rattle.std.proofs.lemmas.List.{append-nil, get_or-take, length-take-le, take-append-drop}
use Rattle.std.proofs.lemmas.Str.{utf8_lossy_empty}
use Rattle.std.proofs.Math.Seq.{split_at, take-suc, take-length}
use Rattle.memchr.specs.Find.{is_byte, IsLastByte}
use Rattle.bm_lines.specs.Lines.{lines_of}
use Rattle.bm_lines.specs.declared.letter.Letter.{Letter}
use Rattle.bm_work.specs.Assembling.{IsUnended}
use Rattle.bm_work.specs.Cuts.{ends_text, texts_after, left_after, texts_of, left_of, shown}
use Rattle.bm_outbox.specs.Joining.{lines_in, whole_of}
use Rattle.bm_outbox.specs.Stretches.{IsStretch}
use Rattle.bm_outbox.proofs.Joins.{lines_whole}
use Rattle.bm_outbox.proofs.Lossy.{lossy_splits}

lossy-ended : (line : List ℕ) → utf8_lossy (line ++ 10 ∷ []) ≡ utf8_lossy line ++ 10 ∷ []
lossy-ended line = lossy_splits line [] ∙ ap (λ t. utf8_lossy line ++ 10 ∷ t) (utf8_lossy_empty [] refl)

lossy-line : (line more : List ℕ) → utf8_lossy (line ++ 10 ∷ more) ≡ utf8_lossy (line ++ 10 ∷ []) ++ utf8_lossy more
lossy-line line more =
    lossy_splits line more
    ∙ sym (append_assoc (utf8_lossy line) (10 ∷ []) (utf8_lossy more))
    ∙ ap (λ t. t ++ utf8_lossy more) (sym (lossy-ended line))

-- A function of what is shown, of a line and of what follows it side by side.
abbrev AreApartIn : {X : Type 0} → (List ℕ → List X) → Type 0
AreApartIn f = (line more : List ℕ) → f (utf8_lossy (line ++ 10 ∷ more)) ≡ f (utf8_lossy (line ++ 10 ∷ [])) ++ f (utf8_lossy more)

lines-apart : (letter : Letter) → AreApartIn (lines_of letter)
lines-apart letter line more =
    ap (lines_of letter) (lossy-line line more)
    ∙ lines_whole letter (utf8_lossy (line ++ 10 ∷ [])) (utf8_lossy more) (inr (utf8_lossy line, lossy-ended line))

-- where a line is short, its end alone ends it
or-first : (a b : Bool) → (a || b) ≡ true → b ≡ false → a ≡ true
or-first true b e other = refl
or-first false b e other = cc

ends-line : (line : List ℕ) (b : ℕ) → length line + 1 < 16384 → ends_text line b ≡ true → b ≡ 10
ends-line line b few e =
    let short : (length line + 1 == 16384) ≡ false = grind (arith, nat_tests) in
    let end : (b == 10) ≡ true = or-first (b == 10) (length line + 1 == 16384) e short in
    grind (arith, nat_tests)

abbrev shown_by : {X : Type 0} → (List ℕ → List X) → List ℕ → List ℕ → List X
shown_by f line bytes = flat_map f (shown (texts_after line bytes))

lines-step : {X : Type 0} (f : List ℕ → List X) → AreApartIn f → (line : List ℕ) (b : ℕ) (g rest : List ℕ) → length line + 1 < 16384
    → (t : Bool) → ends_text line b ≡ t
    → shown_by f [] (g ++ 10 ∷ rest) ≡ f (utf8_lossy (g ++ 10 ∷ [])) ++ shown_by f [] rest
    → shown_by f (line ++ b ∷ []) (g ++ 10 ∷ rest) ≡ f (utf8_lossy ((line ++ b ∷ []) ++ (g ++ 10 ∷ []))) ++ shown_by f [] rest
    → flat_map f (shown (if t then (line ++ b ∷ []) ∷ texts_after [] (g ++ 10 ∷ rest) else texts_after (line ++ b ∷ []) (g ++ 10 ∷ rest)))
    ≡ f (utf8_lossy (line ++ b ∷ (g ++ 10 ∷ []))) ++ shown_by f [] rest
lines-step f apart line b g rest few true e new more =
    let end : b ≡ 10 = ends-line line b few e in
    let front = f (utf8_lossy (line ++ 10 ∷ [])) in
    ap (λ c. f (utf8_lossy (line ++ c ∷ [])) ++ shown_by f [] (g ++ 10 ∷ rest)) end
    ∙ ap (λ t. front ++ t) new
    ∙ sym (append_assoc front (f (utf8_lossy (g ++ 10 ∷ []))) (shown_by f [] rest))
    ∙ ap (λ t. t ++ shown_by f [] rest) (sym (apart line (g ++ 10 ∷ [])))
    ∙ ap (λ c. f (utf8_lossy (line ++ c ∷ (g ++ 10 ∷ []))) ++ shown_by f [] rest) (sym end)
lines-step f apart line b g rest few false e new more =
    more ∙ ap (λ t. f (utf8_lossy t) ++ shown_by f [] rest) (append_assoc line (b ∷ []) (g ++ 10 ∷ []))

length-one : (line : List ℕ) (b : ℕ) → length (line ++ b ∷ []) ≡ length line + 1
length-one line b = length-append line (b ∷ [])

-- whole lines are shown at once
lines-shown : {X : Type 0} (f : List ℕ → List X) → AreApartIn f → (line g rest : List ℕ) → length line + length g < 16384
    → shown_by f line (g ++ 10 ∷ rest) ≡ f (utf8_lossy (line ++ (g ++ 10 ∷ []))) ++ shown_by f [] rest
lines-shown f apart line [] rest few = refl
lines-shown f apart line (b ∷ g) rest few =
    let one = length-one line b in
    lines-step f apart line b g rest (omega arith) (ends_text line b) refl
    (lines-shown f apart [] g rest (omega arith))
    (lines-shown f apart (line ++ b ∷ []) g rest (omega arith))

left-step : (line : List ℕ) (b : ℕ) (g rest : List ℕ) (t : Bool)
    → left_after [] (g ++ 10 ∷ rest) ≡ left_after [] rest → left_after (line ++ b ∷ []) (g ++ 10 ∷ rest) ≡ left_after [] rest
    → (if t then left_after [] (g ++ 10 ∷ rest) else left_after (line ++ b ∷ []) (g ++ 10 ∷ rest)) ≡ left_after [] rest
left-step line b g rest true new more = new
left-step line b g rest false new more = more

lines-left : (line g rest : List ℕ) → left_after line (g ++ 10 ∷ rest) ≡ left_after [] rest
lines-left line [] rest = refl
lines-left line (b ∷ g) rest = left-step line b g rest (ends_text line b) (lines-left [] g rest) (lines-left (line ++ b ∷ []) g rest)

-- no line ends in the bytes
IsInLine : List ℕ → Type 0
IsInLine bytes = (i : ℕ) → i < length bytes → ¬ ((get_or bytes i 0 == 10) ≡ true)

in_line-first : (b : ℕ) (bytes : List ℕ) → IsInLine (b ∷ bytes) → (b == 10) ≡ false
unfolding IsInLine
in_line-first b bytes h = let plain : ¬ ((b == 10) ≡ true) = h 0 (omega arith) in grind (arith, nat_tests)

in_line-rest : (b : ℕ) (bytes : List ℕ) → IsInLine (b ∷ bytes) → IsInLine bytes
unfolding IsInLine
in_line-rest b bytes h = λ i l. h (suc i) (omega arith)

-- the first text is the longest piece of a line
record IsPiece (line g rest : List ℕ) : Type 0 where
  pub texts : texts_after line (g ++ rest) ≡ (line ++ g) ∷ texts_after [] rest
  pub left : left_after line (g ++ rest) ≡ left_after [] rest

is_piece : (line g rest : List ℕ) → IsInLine g → 0 < length g → length line + length g ≡ 16384 → IsPiece line g rest
is_piece line [] rest h some full = absurd (omega arith)
is_piece line (b ∷ []) rest h some full =
    let plain = in_line-first b [] h in
    let last : (length line + 1 == 16384) ≡ true = grind (arith, nat_tests) in
    record { texts = rw (plain, last) refl; left = rw (plain, last) refl }
is_piece line (b ∷ c ∷ g) rest h some full =
    let plain = in_line-first b (c ∷ g) h in
    let other : (length line + 1 == 16384) ≡ false = grind (arith, nat_tests) in
    let one = length-one line b in
    let more = is_piece (line ++ b ∷ []) (c ∷ g) rest (in_line-rest b (c ∷ g) h) (omega arith) (omega arith) in
    record {
      texts = rw (plain, other) (more.texts ∙ ap (λ t. t ∷ texts_after [] rest) (append_assoc line (b ∷ []) (c ∷ g)));
      left = rw (plain, other) more.left;
    }

-- no text ends in less of a line
record IsCutNowhere (line bytes : List ℕ) : Type 0 where
  pub texts : texts_after line bytes ≡ []
  pub left : left_after line bytes ≡ line ++ bytes

cut_nowhere : (line bytes : List ℕ) → IsInLine bytes → length line + length bytes < 16384 → IsCutNowhere line bytes
cut_nowhere line [] h few = record { texts = refl; left = sym (append-nil line) }
cut_nowhere line (b ∷ bytes) h few =
    let plain = in_line-first b bytes h in
    let other : (length line + 1 == 16384) ≡ false = grind (arith, nat_tests) in
    let one = length-one line b in
    let more = cut_nowhere (line ++ b ∷ []) bytes (in_line-rest b bytes h) (omega arith) in
    record { texts = rw (plain, other) more.texts; left = rw (plain, other) (more.left ∙ append_assoc line (b ∷ []) bytes) }

-- the bytes up to the end of a line
stretch-lines : (bytes : List ℕ) (i : ℕ) → i < length bytes → i < 16384 → get_or bytes i 0 ≡ 10 → IsStretch bytes (i + 1)
stretch-lines bytes i within few end =
    let g = take i bytes in
    let rest = drop (suc i) bytes in
    let next : i + 1 ≡ suc i = omega arith in
    let cut : bytes ≡ g ++ 10 ∷ rest = split_at bytes i 0 within ∙ ap (λ b. g ++ b ∷ rest) end in
    let front : g ++ 10 ∷ [] ≡ take (i + 1) bytes = ap (λ b. g ++ b ∷ []) (sym end) ∙ sym (take-suc bytes i 0 within) ∙ ap (λ n. take n bytes) (sym next) in
    let back : rest ≡ drop (i + 1) bytes = ap (λ n. drop n bytes) (sym next) in
    let size : length g ≡ i = length-take-le i bytes (omega arith) in
    record {
      some = omega arith;
      within = omega arith;
      short = omega arith;
      same_text =
          ap (λ t. whole_of (shown (texts_of t))) cut
          ∙ lines-shown (λ t. t) lossy-line [] g rest (omega arith)
          ∙ ap (λ t. utf8_lossy t ++ whole_of (shown (texts_of rest))) front
          ∙ ap (λ t. utf8_lossy (take (i + 1) bytes) ++ whole_of (shown (texts_of t))) back;
      same_lines = λ letter.
          ap (λ t. lines_in letter (shown (texts_of t))) cut
          ∙ lines-shown (lines_of letter) (lines-apart letter) [] g rest (omega arith)
          ∙ ap (λ t. lines_of letter (utf8_lossy t) ++ lines_in letter (shown (texts_of rest))) front
          ∙ ap (λ t. lines_of letter (utf8_lossy (take (i + 1) bytes)) ++ lines_in letter (shown (texts_of t))) back;
      same_left = ap left_of cut ∙ lines-left [] g rest ∙ ap left_of back;
    }

-- the longest piece of a line
stretch-piece : (bytes : List ℕ) (n : ℕ) → n ≡ 16384 → n ≤ length bytes → IsInLine (take n bytes) → IsStretch bytes n
stretch-piece bytes n full within h =
    let g = take n bytes in
    let rest = drop n bytes in
    let size : length g ≡ n = length-take-le n bytes within in
    let cut : bytes ≡ g ++ rest = sym (take-append-drop n bytes) in
    let piece = is_piece [] g rest h (omega arith) (omega arith) in
    record {
      some = omega arith;
      within = within;
      short = omega arith;
      same_text = ap (λ t. whole_of (shown (texts_of t))) cut ∙ ap (λ ts. whole_of (shown ts)) piece.texts;
      same_lines = λ letter. ap (λ t. lines_in letter (shown (texts_of t))) cut ∙ ap (λ ts. lines_in letter (shown ts)) piece.texts;
      same_left = ap left_of cut ∙ piece.left;
    }

unended : (bytes : List ℕ) → length bytes < 16384 → IsInLine bytes → IsUnended bytes
unended bytes few h = let uncut = cut_nowhere [] bytes h (omega arith) in record { no_text = uncut.texts; all_left = uncut.left; short = few }

-- what the search for the last line end tells
nowhere-in_line : (bytes : List ℕ) → IsLastByte (is_byte 10) bytes None → IsInLine bytes
unfolding IsInLine
nowhere-in_line bytes h = λ i below. h i (omega arith) below

pub found-stretch : (bytes : List ℕ) (n i : ℕ) → n ≤ length bytes → n ≤ 16384 → IsLastByte (is_byte 10) (take n bytes) (Some i) → IsStretch bytes (i + 1)
found-stretch bytes n i fits few h =
    let size : length (take n bytes) ≡ n = length-take-le n bytes fits in
    let below : i < n = omega (arith, h.0.high) in
    let here : (get_or (take n bytes) i 0 == 10) ≡ true = h.1 in
    let same : get_or (take n bytes) i 0 ≡ get_or bytes i 0 = get_or-take n bytes i 0 below in
    stretch-lines bytes i (omega arith) (omega arith) (grind (arith, nat_tests))

pub full-stretch : (bytes : List ℕ) (n : ℕ) → n ≤ length bytes → n ≡ 16384 → IsLastByte (is_byte 10) (take n bytes) None → IsStretch bytes n
full-stretch bytes n fits full h = stretch-piece bytes n full fits (nowhere-in_line (take n bytes) h)

pub nowhere-unended : (bytes : List ℕ) (n : ℕ) → n ≡ length bytes → n < 16384 → IsLastByte (is_byte 10) (take n bytes) None → IsUnended bytes
nowhere-unended bytes n all few h =
    let whole : take n bytes ≡ bytes = ap (λ k. take k bytes) all ∙ take-length bytes in
    unended bytes (omega arith) (subst IsInLine whole (nowhere-in_line (take n bytes) h))

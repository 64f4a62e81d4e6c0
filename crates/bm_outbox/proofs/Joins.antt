-- A text that ends its line, and what follows it, have their lines side by side.
use Rattle.std.proofs.Common.{◌≡◌, refl, sym, ap, ◌∙◌, subst, inl, inr, ℕ, ◌+◌, ◌<◌, ◌==◌, Bool, true, false, cond, List, [], ◌∷◌, ◌++◌, map, length, get_or, ◌-◌, append_assoc, arith}
use Rattle.std.specs.List.{slice_split, onto_first}
use Rattle.std.proofs.lemmas.List.{append-nil, length-append, map-append}
use Rattle.std.proofs.Math.Seq.{get_or-append_seam}
use Rattle.std.proofs.lemmas.List.Concat.{flat_map-append}
use Rattle.std.proofs.lemmas.List.Splits.{length-slice_split}
use Rattle.bm_lines.specs.Lines.{Line, without_last_empty, lines_of}
use Rattle.bm_lines.specs.declared.letter.Letter.{Letter}
use Rattle.bm_outbox.specs.Joining.{IsWhole, Fit, AreApart, Adds, lines_in, whole_of}

abbrev parts : List ℕ → List (List ℕ)
parts text = slice_split (λ c. c == 10) text

some_parts : (text : List ℕ) → 0 < length (parts text)
some_parts text = omega (arith, length-slice_split (λ c. c == 10) text)

onto-append : (x : ℕ) (ps qs : List (List ℕ)) → 0 < length ps → onto_first x (ps ++ qs) ≡ onto_first x ps ++ qs
onto-append x [] qs some = absurd (omega arith)
onto-append x (p ∷ ps) qs some = refl

-- the parts on both sides of an end of line
parts-end : (front rest : List ℕ) → parts (front ++ 10 ∷ rest) ≡ parts front ++ parts rest
parts-end [] rest = refl
parts-end (x ∷ xs) rest = go (x == 10) (parts-end xs rest)
  where
    go : (b : Bool) → parts (xs ++ 10 ∷ rest) ≡ parts xs ++ parts rest
        → cond b ([] ∷ parts (xs ++ 10 ∷ rest)) (onto_first x (parts (xs ++ 10 ∷ rest))) ≡ cond b ([] ∷ parts xs) (onto_first x (parts xs)) ++ parts rest
    go true h = ap (λ ps. [] ∷ ps) h
    go false h = ap (onto_first x) h ∙ onto-append x (parts xs) (parts rest) (some_parts xs)

without-some : (p : List ℕ) (ps : List (List ℕ)) → 0 < length ps → without_last_empty (p ∷ ps) ≡ p ∷ without_last_empty ps
without-some p [] some = absurd (omega arith)
without-some [] (q ∷ qs) some = refl
without-some (x ∷ xs) (q ∷ qs) some = refl

some-append : (ps qs : List (List ℕ)) → 0 < length qs → 0 < length (ps ++ qs)
some-append [] qs some = some
some-append (p ∷ ps) qs some = omega arith

without-append : (ps qs : List (List ℕ)) → 0 < length qs → without_last_empty (ps ++ qs) ≡ ps ++ without_last_empty qs
without-append [] qs some = refl
without-append (p ∷ ps) qs some =
    without-some p (ps ++ qs) (some-append ps qs some) ∙ ap (λ rest. p ∷ rest) (without-append ps qs some)

ended : (front rest : List ℕ) → without_last_empty (parts (front ++ 10 ∷ rest)) ≡ parts front ++ without_last_empty (parts rest)
ended front rest = ap without_last_empty (parts-end front rest) ∙ without-append (parts front) (parts rest) (some_parts rest)

ended-alone : (front : List ℕ) → without_last_empty (parts (front ++ 10 ∷ [])) ≡ parts front
ended-alone front = ended front [] ∙ append-nil (parts front)

ended-parts : (front rest : List ℕ)
    → without_last_empty (parts ((front ++ 10 ∷ []) ++ rest)) ≡ without_last_empty (parts (front ++ 10 ∷ [])) ++ without_last_empty (parts rest)
ended-parts front rest =
    ap (λ t. without_last_empty (parts t)) (append_assoc front (10 ∷ []) rest)
    ∙ (ended front rest ∙ ap (λ ps. ps ++ without_last_empty (parts rest)) (sym (ended-alone front)))

abbrev line : Letter → List ℕ → Line
line letter part = record { letter = letter; text = part }

pub lines_whole : (letter : Letter) (first rest : List ℕ) → IsWhole first → lines_of letter (first ++ rest) ≡ lines_of letter first ++ lines_of letter rest
lines_whole letter first rest (inl empty) =
    subst (λ (t : List ℕ). lines_of letter (t ++ rest) ≡ lines_of letter t ++ lines_of letter rest) (sym empty) refl
lines_whole letter first rest (inr h) =
    subst (λ (t : List ℕ). lines_of letter (t ++ rest) ≡ lines_of letter t ++ lines_of letter rest) (sym h.1)
    (ap (map (line letter)) (ended-parts h.0 rest)
    ∙ map-append (line letter) (without_last_empty (parts (h.0 ++ 10 ∷ []))) (without_last_empty (parts rest)))

lines-one : (letter : Letter) (texts : List (List ℕ)) (text : List ℕ)
    → lines_in letter (texts ++ text ∷ []) ≡ lines_in letter texts ++ lines_of letter text
lines-one letter texts text =
    flat_map-append (lines_of letter) texts (text ∷ []) ∙ ap (λ ls. lines_in letter texts ++ ls) (append-nil (lines_of letter text))

text-one : (texts : List (List ℕ)) (text : List ℕ) → whole_of (texts ++ text ∷ []) ≡ whole_of texts ++ text
text-one texts text = flat_map-append (λ t. t) texts (text ∷ []) ∙ ap (λ t. whole_of texts ++ t) (append-nil text)

-- a text that didn't fit fits no more once it has grown
grown-apart : (texts : List (List ℕ)) (current text : List ℕ) → AreApart (texts ++ current ∷ []) → AreApart (texts ++ (current ++ text) ∷ [])
grown-apart [] current text h = tt
grown-apart (first ∷ []) current text h =
    let longer : length (current ++ text) ≡ length current + length text = length-append current text in
    (λ fit. h.0 (fit.0, omega arith), tt)
grown-apart (first ∷ second ∷ rest) current text h = (h.0, grown-apart (second ∷ rest) current text h.1)

one-more-apart : (texts : List (List ℕ)) (current text : List ℕ) → (Fit current text → ⊥) → AreApart (texts ++ current ∷ [])
    → AreApart ((texts ++ current ∷ []) ++ text ∷ [])
one-more-apart [] current text other h = (other, tt)
one-more-apart (first ∷ []) current text other h = (h.0, (other, tt))
one-more-apart (first ∷ second ∷ rest) current text other h = (h.0, one-more-apart (second ∷ rest) current text other h.1)

-- what ends its line has an end of line as its last byte
pub ends_line : (text : List ℕ) → IsWhole text → 0 < length text → get_or text (length text - 1) 0 ≡ 10
ends_line text (inl empty) some = let none : length text ≡ 0 = ap length empty in absurd (omega arith)
ends_line text (inr h) some =
    let more : length (h.0 ++ 10 ∷ []) ≡ length h.0 + 1 = length-append h.0 (10 ∷ []) in
    let last : length (h.0 ++ 10 ∷ []) - 1 ≡ length h.0 = omega arith in
    subst (λ (t : List ℕ). get_or t (length t - 1) 0 ≡ 10) (sym h.1)
    (ap (λ n. get_or (h.0 ++ 10 ∷ []) n 0) last ∙ get_or-append_seam h.0 10 [] 0)

-- a text grew by another one
pub adds_to : (letter : Letter) (done : List (List ℕ)) (current text : List ℕ) → IsWhole current
    → Adds (record { letter = letter; done = done; current = current }) text (record { letter = letter; done = done; current = current ++ text })
adds_to letter done current text whole = record {
  letter = refl;
  text_grew =
      text-one done (current ++ text)
      ∙ (sym (append_assoc (whole_of done) current text) ∙ ap (λ t. t ++ text) (sym (text-one done current)));
  lines_grew =
      lines-one letter done (current ++ text)
      ∙ (ap (λ ls. lines_in letter done ++ ls) (lines_whole letter current text whole)
      ∙ (sym (append_assoc (lines_in letter done) (lines_of letter current) (lines_of letter text))
      ∙ ap (λ ls. ls ++ lines_of letter text) (sym (lines-one letter done current))));
  still_apart = grown-apart done current text;
}

-- another text was begun
pub adds_one : (letter : Letter) (done : List (List ℕ)) (current text : List ℕ) → (Fit current text → ⊥)
    → Adds (record { letter = letter; done = done; current = current }) text (record { letter = letter; done = done ++ current ∷ []; current = text })
adds_one letter done current text other = record {
  letter = refl;
  text_grew = text-one (done ++ current ∷ []) text;
  lines_grew = lines-one letter (done ++ current ∷ []) text;
  still_apart = one-more-apart done current text other;
}

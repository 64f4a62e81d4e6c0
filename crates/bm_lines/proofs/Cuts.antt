-- A text that is cut at its line ends.
use Rattle.std.proofs.Common.{◌≡◌, ◌≢◌, suc, refl, sym, ◌∙◌, ap, ℕ, ◌<◌, Bool, true, false, cond, List, [], ◌∷◌, ◌++◌, map, length, Option, Some, None, arith}
use Rattle.std.specs.Prelude.{◌==◌, MatchOption, unwrap_or}
use Rattle.std.specs.Borrow.{Bor}
use Rattle.std.specs.List.{slice_split, onto_first}
use Rattle.std.proofs.lemmas.List.Splits.{length-slice_split}
use Rattle.std.proofs.lemmas.Bool.Decides.{nat_tests}
use Rattle.memchr.specs.Find.{Nowhere, Passes, is_byte}
use Rattle.bm_lines.specs.declared.letter.Letter.{Letter}
use Rattle.bm_lines.specs.Lines.{Line, without_last_empty}

-- whether a byte ends a line
abbrev pub ends : ℕ → Bool
ends c = c == 10

abbrev parts : List ℕ → List (List ℕ)
parts text = slice_split (λ c. c == 10) text

without-onto_first : (x : ℕ) (ps : List (List ℕ)) → without_last_empty (onto_first x ps) ≡ onto_first x (without_last_empty ps)
without-onto_first x [] = refl
without-onto_first x ([] ∷ []) = refl
without-onto_first x ([] ∷ (q ∷ qs)) = refl
without-onto_first x ((y ∷ ys) ∷ ps) = refl

without-cons : (ps : List (List ℕ)) → 0 < length ps → without_last_empty ([] ∷ ps) ≡ [] ∷ without_last_empty ps
without-cons [] h = absurd (omega arith)
without-cons (p ∷ ps) h = refl

pub some_parts : (text : List ℕ) → 0 < length (parts text)
some_parts text = omega (arith, length-slice_split (λ c. c == 10) text)

-- an end of line at the end of a text makes no part of its own
without-parts_end : (text : List ℕ) → without_last_empty (parts (text ++ 10 ∷ [])) ≡ parts text
without-parts_end [] = refl
without-parts_end (x ∷ xs) = go (x == 10) (without-parts_end xs)
  where
    go : (b : Bool) → without_last_empty (parts (xs ++ 10 ∷ [])) ≡ parts xs
        → without_last_empty (cond b ([] ∷ parts (xs ++ 10 ∷ [])) (onto_first x (parts (xs ++ 10 ∷ [])))) ≡ cond b ([] ∷ parts xs) (onto_first x (parts xs))
    go true h = without-cons _ (some_parts (xs ++ 10 ∷ [])) ∙ ap (λ ps. [] ∷ ps) h
    go false h = without-onto_first x _ ∙ ap (onto_first x) h

-- a text that ends otherwise has no last empty part
without-parts : (text : List ℕ) → 0 < length text → ((front : List ℕ) → text ≢ front ++ 10 ∷ []) → without_last_empty (parts text) ≡ parts text
without-parts [] some h = absurd (omega arith)
without-parts (x ∷ []) some h = go (x == 10) refl
  where
    go : (b : Bool) → (x == 10) ≡ b → without_last_empty (cond b ([] ∷ ([] ∷ [])) ((x ∷ []) ∷ [])) ≡ cond b ([] ∷ ([] ∷ [])) ((x ∷ []) ∷ [])
    go true e =
        let is : x ≡ 10 = grind (arith, nat_tests) in
        absurd (h [] (ap (λ y. y ∷ []) is))
    go false e = refl
without-parts (x ∷ (y ∷ ys)) some h = go (x == 10) (without-parts (y ∷ ys) (omega arith) (λ front e. h (x ∷ front) (ap (λ t. x ∷ t) e)))
  where
    go : (b : Bool) → without_last_empty (parts (y ∷ ys)) ≡ parts (y ∷ ys)
        → without_last_empty (cond b ([] ∷ parts (y ∷ ys)) (onto_first x (parts (y ∷ ys)))) ≡ cond b ([] ∷ parts (y ∷ ys)) (onto_first x (parts (y ∷ ys)))
    go true e = without-cons _ (some_parts (y ∷ ys)) ∙ ap (λ ps. [] ∷ ps) e
    go false e = without-onto_first x _ ∙ ap (onto_first x) e

-- the parts of a text without its last line end are its lines
pub parts_stripped : (text : List ℕ) (r : Option (Bor (List ℕ))) (d : Bor (List ℕ)) → d.now ≡ text → 0 < length text
    → MatchOption r ((front : List ℕ) → text ≢ front ++ 10 ∷ []) (λ x. text ≡ x.now ++ 10 ∷ [])
    → slice_split (λ c. c == 10) (unwrap_or r d).now ≡ without_last_empty (slice_split (λ c. c == 10) text)
parts_stripped text None d is some h = ap parts is ∙ sym (without-parts text some h)
parts_stripped text (Some x) d is some h = sym (without-parts_end x.now) ∙ ap (λ t. without_last_empty (parts t)) (sym h)

-- a text without a line end is one part
pub parts-nowhere : (text : List ℕ) → Nowhere (Passes (is_byte 10) text) 0 (length text) → slice_split (λ c. c == 10) text ≡ text ∷ []
parts-nowhere [] h = refl
parts-nowhere (x ∷ xs) h = go (x == 10) refl (parts-nowhere xs (λ k low inside. h (suc k) (omega arith) (omega arith)))
  where
    go : (b : Bool) → (x == 10) ≡ b → parts xs ≡ xs ∷ [] → cond b ([] ∷ parts xs) (onto_first x (parts xs)) ≡ (x ∷ xs) ∷ []
    go true e ih = absurd (h 0 (omega arith) (omega arith) e)
    go false e ih = ap (onto_first x) ih

abbrev pub lettered : Letter → List ℕ → Line
lettered letter part = record { letter = letter; text = part }

-- a line for each part that was met
pub lettered_now-map : (letter : Letter) (ps : List (Bor (List ℕ))) → map {B = Line} (λ p. record { letter = letter; text = p.now }) ps ≡ map (lettered letter) (map (λ p. p.now) ps)
lettered_now-map letter [] = refl
lettered_now-map letter (p ∷ ps) = ap (λ ls. lettered letter p.now ∷ ls) (lettered_now-map letter ps)

-- and one line more for a part more
pub lettered_now-next : (letter : Letter) (ps : List (Bor (List ℕ))) (p : Bor (List ℕ)) → map {B = Line} (λ p. record { letter = letter; text = p.now }) (ps ++ p ∷ []) ≡ map {B = Line} (λ p. record { letter = letter; text = p.now }) ps ++ lettered letter p.now ∷ []
lettered_now-next letter [] p = refl
lettered_now-next letter (q ∷ ps) p = ap (λ ls. lettered letter q.now ∷ ls) (lettered_now-next letter ps p)

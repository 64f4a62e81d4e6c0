-- The lines of a text, and the text of lines.
use Rattle.std.specs.Prelude.{ℕ, ◌==◌, List, [], ◌∷◌, ◌++◌, map}
use Rattle.std.specs.List.{slice_split, flat_map}
use Rattle.bm_lines.specs.declared.letter.Letter.{Letter}
use Rattle.bm_lines.specs.declared.letter.Letter.TheVariants.{O, E, H}

-- a line of a log, without the \n at its end, and the stream that it came from
pub record Line : Type 0 where
  pub letter : Letter
  pub text : List ℕ

abbrev pub without_last_empty : List (List ℕ) → List (List ℕ)
without_last_empty [] = []
without_last_empty ([] ∷ []) = []
without_last_empty (p ∷ ps) = p ∷ without_last_empty ps

-- the parts of a text between the characters \n (byte 10), without a last empty part, each with the
-- letter
abbrev pub lines_of : Letter → List ℕ → List Line
lines_of letter text =
    map (λ part. record { letter = letter; text = part })
    (without_last_empty (slice_split (λ c. c == 10) text))

-- the letter in lower case
abbrev pub letter_code : Letter → ℕ
letter_code O = 111
letter_code E = 101
letter_code H = 104

-- for each line its letter, its text and \n (Buildbot manual, logs of type s)
abbrev pub content_of : List Line → List ℕ
content_of lines = flat_map (λ (l : Line). letter_code l.letter ∷ (l.text ++ 10 ∷ [])) lines

-- Laws of the texts that bytes are cut into.
use Rattle.std.specs.Prelude.{◌≡◌, ◌≢◌, ℕ, ◌<◌, List, [], ◌∷◌, ◌++◌, length, All, ◌⊎◌}
use Rattle.std.specs.List.{concat}
use Rattle.bm_work.specs.Cuts.{line_end, longest, texts_of, left_of}

-- No line end stands in the bytes, and they are fewer than the longest text has.
pub record IsPartOfLine (bytes : List ℕ) : Type 0 where
  pub within_line : All (λ b. b ≢ line_end) bytes
  pub short : length bytes < longest

-- A text is a part of a line and one byte more, which is the line's end or makes it the longest.
pub record IsText (text : List ℕ) : Type 0 where
  pub line : List ℕ
  pub last : ℕ
  pub whole : text ≡ line ++ last ∷ []
  pub part : IsPartOfLine line
  pub ended : (last ≡ line_end) ⊎ (length text ≡ longest)

-- The texts, joined, and what is left are the bytes.
abbrev pub TextsAreTheBytes : Type 0
TextsAreTheBytes = (bytes : List ℕ) → concat (texts_of bytes) ++ left_of bytes ≡ bytes

abbrev pub TextsEndWhereTheyMust : Type 0
TextsEndWhereTheyMust = (bytes : List ℕ) → All IsText (texts_of bytes)
    × IsPartOfLine (left_of bytes)

-- In which pieces the bytes come plays no part.
abbrev pub PiecesPlayNoPart : Type 0
PiecesPlayNoPart =
    (first second : List ℕ)
    → (texts_of (first ++ second) ≡ texts_of first ++ texts_of (left_of first ++ second))
    × (left_of (first ++ second) ≡ left_of (left_of first ++ second))

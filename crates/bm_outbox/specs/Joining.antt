-- Texts of one pipe that are joined.
use Rattle.std.specs.Prelude.{◌≡◌, ◌≤◌, ◌+◌, ◌⊎◌, ℕ, List, [], ◌∷◌, ◌++◌, length, map, All, ⊤}
use Rattle.std.specs.List.{flat_map}
use Rattle.bm_lines.specs.Lines.{Line, lines_of}
use Rattle.bm_lines.specs.declared.letter.Letter.{Letter}
use Rattle.bm_outbox.specs.declared.said.Said.{Said}

-- the most bytes of a text that is said
abbrev pub most_bytes : ℕ
most_bytes = 65536

abbrev pub texts_of : List Said → List (List ℕ)
texts_of said = map (λ (s : Said). s.text) said

abbrev pub lines_in : Letter → List (List ℕ) → List Line
lines_in letter texts = flat_map (lines_of letter) texts

-- texts, one behind the other
abbrev pub whole_of : List (List ℕ) → List ℕ
whole_of texts = flat_map (λ text. text) texts

-- a text is empty or ends its line
abbrev pub IsWhole : List ℕ → Type 0
IsWhole text = (text ≡ []) ⊎ ((front : List ℕ) × (text ≡ front ++ 10 ∷ []))

-- two texts fit into one, in which their lines stay lines of their own
abbrev pub Fit : List ℕ → List ℕ → Type 0
Fit first second = IsWhole first × (length first + length second ≤ most_bytes)

-- no text fits to the one before it: nothing more can be joined
abbrev pub AreApart : List (List ℕ) → Type 0
AreApart [] = ⊤
AreApart (text ∷ []) = ⊤
AreApart (first ∷ second ∷ rest) = (Fit first second → ⊥) × AreApart (second ∷ rest)

-- What is said of these texts is their text, in order, with the letter of their pipe. Its lines are
-- theirs, and all that fits is joined.
pub record IsJoined (letter : Letter) (texts : List (List ℕ)) (said : List Said) : Type 0 where
  pub same_text : whole_of (texts_of said) ≡ whole_of texts
  pub same_lines : lines_in letter (texts_of said) ≡ lines_in letter texts
  pub same_pipe : All (λ (s : Said). s.letter ≡ letter) said
  pub apart : AreApart (texts_of said)
  pub short : All (λ (s : Said). length s.text ≤ most_bytes) said

-- texts of a pipe that were joined, and the one that may grow
pub record Joining : Type 0 where
  pub letter : Letter
  pub done : List (List ℕ)
  pub current : List ℕ

pub record IsJoining (letter : Letter) (done : List Said) (current : List ℕ) : Type 0 where
  pub same_pipe : All (λ (s : Said). s.letter ≡ letter) done
  pub all_short : All (λ (s : Said). length s.text ≤ most_bytes) done
  pub short : length current ≤ most_bytes

abbrev pub all_of : Joining → List (List ℕ)
all_of j = j.done ++ j.current ∷ []

-- a text was added: it follows all the others, and so do its lines
pub record Adds (old : Joining) (text : List ℕ) (new : Joining) : Type 0 where
  pub letter : new.letter ≡ old.letter
  pub text_grew : whole_of (all_of new) ≡ whole_of (all_of old) ++ text
  pub lines_grew : lines_in old.letter (all_of new)
      ≡ lines_in old.letter (all_of old) ++ lines_of old.letter text
  pub still_apart : AreApart (all_of old) → AreApart (all_of new)

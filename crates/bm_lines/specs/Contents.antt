-- How lines lie in memory: their content, and where each but the first begins in it.
use Rattle.std.specs.Prelude.{◌≡◌, ℕ, ◌+◌, ◌-◌, ◌==◌, List, [], ◌∷◌, length, take, drop, if◌then◌else◌}
use Rattle.bm_lines.specs.declared.letter.Letter.{Letter}
use Rattle.bm_lines.specs.declared.letter.Letter.TheVariants.{O, E, H}
use Rattle.bm_lines.specs.Lines.{Line, content_of}

-- how many bytes of content a line has: its letter, its text and \n
abbrev pub size : Line → ℕ
size l = length l.text + 2

-- where each line begins, where the first begins at a place
abbrev pub begins_from : ℕ → List Line → List ℕ
begins_from at [] = []
begins_from at (l ∷ ls) = at ∷ begins_from (at + size l) ls

-- where each line but the first begins
abbrev pub later_begins : List Line → List ℕ
later_begins [] = []
later_begins (l ∷ ls) = begins_from (size l) ls

-- the text is the content of the lines, and these are the places where the later ones begin
pub record IsContent (ls : List Line) (text begins : List ℕ) : Type 0 where
  pub exact : text ≡ content_of ls
  pub places : begins ≡ later_begins ls

-- the letter that a byte writes
abbrev pub letter_of : ℕ → Letter
letter_of c = if c == 111 then O else if c == 101 then E else H

-- the line whose content these bytes are
abbrev pub line_of : List ℕ → Line
line_of [] = record { letter = H; text = [] }
line_of (c ∷ cs) = record { letter = letter_of c; text = take (length cs - 1) cs }

-- the lines of a text that begins at a place, where the later ones begin at these
abbrev pub lines_from : ℕ → List ℕ → List ℕ → List Line
lines_from at [] text = line_of text ∷ []
lines_from at (b ∷ bs) text = line_of (take (b - at) text) ∷ lines_from b bs (drop (b - at) text)

abbrev pub lines_in : List ℕ → List ℕ → List Line
lines_in begins text = lines_from 0 begins text

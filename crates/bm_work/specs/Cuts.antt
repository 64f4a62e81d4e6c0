-- A pipe's bytes, cut into texts: after each line end, and after 16,384 bytes of a line. So a line
-- of exactly 16,384 bytes and its `\n` are two texts. Each text is decoded by itself. U+FFFD stands
-- for bytes that are not UTF-8, as Unicode's maximal subparts have it.
use Rattle.std.specs.Prelude.{ℕ, ◌+◌, ◌==◌, Bool, ◌||◌, List, [], ◌∷◌, ◌++◌, length, map, Option, Some, None, option_map, if◌then◌else◌}
use Rattle.std.specs.Str.Lossy.{utf8_lossy}

-- `\n`
abbrev pub line_end : ℕ
line_end = 10

-- the most bytes of a line that a text has
abbrev pub longest : ℕ
longest = 16384

-- The byte ends the text that the bytes of its line before it begin.
abbrev pub ends_text : List ℕ → ℕ → Bool
ends_text line b = (b == line_end) || (length line + 1 == longest)

-- the texts that the bytes end, where `line` stands before them
abbrev pub texts_after : List ℕ → List ℕ → List (List ℕ)
texts_after line [] = []
texts_after line (b ∷ bs) =
    if ends_text line b then (line ++ b ∷ []) ∷ texts_after [] bs
    else texts_after (line ++ b ∷ []) bs

-- the bytes behind the last of these texts
abbrev pub left_after : List ℕ → List ℕ → List ℕ
left_after line [] = line
left_after line (b ∷ bs) = if ends_text line b then left_after [] bs
    else left_after (line ++ b ∷ []) bs

-- the texts that bytes end, and the bytes behind the last of them
abbrev pub texts_of : List ℕ → List (List ℕ)
texts_of bytes = texts_after [] bytes

abbrev pub left_of : List ℕ → List ℕ
left_of bytes = left_after [] bytes

-- what is shown of each text: U+FFFD stands for bytes that are not UTF-8
abbrev pub shown : List (List ℕ) → List (List ℕ)
shown texts = map utf8_lossy texts

-- the last text, which no line end ends
abbrev pub last_text : List ℕ → Option (List ℕ)
last_text [] = None
last_text bytes = Some (utf8_lossy bytes)

-- how many bytes end the first text, where so many bytes of its line stand before them
abbrev pub first_end : ℕ → List ℕ → Option ℕ
first_end before [] = None
first_end before (b ∷ bs) =
    if (b == line_end) || (before + 1 == longest) then Some 1
    else option_map (λ n. n + 1) (first_end (before + 1) bs)

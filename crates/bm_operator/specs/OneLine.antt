-- Names on one line.
use Rattle.std.specs.Prelude.{ℕ, ◌/◌, ◌%◌, ◌==◌, false, if◌then◌else◌, List, [], ◌∷◌, ◌++◌, codes}
use Rattle.std.specs.Char.{is_control, encode_utf8}
use Rattle.std.specs.Fmt.{digit_glyph}
use Rattle.std.specs.List.{flat_map}
use Rattle.std.specs.Str.{chars, byte}

-- `\x` and two hex digits
abbrev pub escaped : ℕ → List ℕ
escaped c = codes "\\x" ++ digit_glyph false (c / 16) ∷ digit_glyph false (c % 16) ∷ []

-- a character as a name shows it
abbrev pub shown : ℕ → List ℕ
shown c =
    if c == byte "\\" then codes "\\\\" else (if is_control c then escaped c else encode_utf8 c)

-- a name on one line
abbrev pub one_line : List ℕ → List ℕ
one_line name = flat_map shown (chars name)

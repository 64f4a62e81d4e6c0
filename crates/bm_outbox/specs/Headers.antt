-- The header lines of a command.
use Rattle.std.specs.Prelude.{ℕ, ℤ, List, [], ◌∷◌, ◌++◌, codes}
use Rattle.std.specs.Fmt.{signed_decimal}
use Rattle.std.specs.List.{join_by}

-- the line that a command begins with: its words, joined by single spaces
abbrev pub words_line : List (List ℕ) → List ℕ
words_line words = join_by (λ word. word) (32 ∷ []) words ++ 10 ∷ []

-- the last line of a command
abbrev pub exit_line : ℤ → List ℕ
exit_line code = codes "program finished with exit code " ++ (signed_decimal code ++ 10 ∷ [])

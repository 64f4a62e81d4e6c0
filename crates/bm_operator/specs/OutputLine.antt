-- The lines of a build master's standard output.
use Rattle.std.specs.Prelude.{ℕ, List, [], ◌∷◌, ◌++◌, codes, decimal}
use Rattle.std.specs.Net.Text.{socket_text}
use Rattle.bm_session.specs.Texts.{result_name}
use Rattle.bm_operator.specs.declared.output_line.OutputLine.{OutputLine}
use Rattle.bm_operator.specs.declared.output_line.OutputLine.TheVariants.{Listening, Build, Lane}

-- what the line says, with its line end
abbrev pub line_text : OutputLine → List ℕ
line_text (Listening workers web) =
    codes "listening " ++ (socket_text workers ++ (32 ∷ (socket_text web ++ 10 ∷ [])))
line_text (Build number result) =
    codes "build " ++ (decimal number ++ (32 ∷ (result_name result ++ 10 ∷ [])))
line_text (Lane name commands lines) =
    codes "lane " ++ (name.now ++ (32 ∷ (decimal commands ++ (32 ∷ (decimal lines ++ 10 ∷ [])))))

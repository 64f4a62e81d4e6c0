-- What a lane heard.
use Rattle.std.specs.Prelude.{[], ◌∷◌, None, codes}
use Rattle.bm_lines.specs.Lines.{Line}
use Rattle.bm_lines.specs.Names.{stdio}
use Rattle.bm_lines.specs.declared.letter.Letter.TheVariants.{O}
use Rattle.bm_session.specs.declared.event.Event.TheVariants.{Up, In, Go}
use Rattle.bm_session.specs.declared.event.Body.TheVariants.{Update}
use Rattle.bm_session.specs.Trace.{Trace}

-- a line of standard output
abbrev pub line : Line
line = record { letter = O; text = codes "done" }

-- a connection, a command that is started, and a message of the worker with that line
abbrev pub said : Trace
said = Up ∷ Go ∷ In 0 (Update 0 ((record { name = stdio; block = line ∷ [] }) ∷ []) None) ∷ []

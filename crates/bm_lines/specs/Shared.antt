-- The lines that are shared as none, as one or as many.
use Rattle.std.specs.Prelude.{List, [], ◌∷◌}
use Rattle.std.specs.Arc.{arc_value}
use Rattle.bm_lines.specs.Lines.{Line}
use Rattle.bm_lines.specs.declared.shared.Shared.{Shared}
use Rattle.bm_lines.specs.declared.shared.Shared.TheVariants.{Nothing, One, Many}

abbrev pub shared_lines : Shared → List Line
shared_lines Nothing = []
shared_lines (One line) = arc_value line ∷ []
shared_lines (Many lines) = arc_value lines

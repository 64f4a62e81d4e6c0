-- What the fields of an update carry.
use Rattle.std.specs.Prelude.{ℤ, List, [], ◌∷◌, Option, Some, None, fold}
use Rattle.std.specs.Option.{option_or}
use Rattle.bm_lines.specs.declared.letter.Letter.TheVariants.{O}
use Rattle.bm_lines.specs.declared.line_batch.LogLines.{LogLines}
use Rattle.bm_lines.specs.Names.{stdio}
use Rattle.bm_lines.specs.Lines.{lines_of}
use Rattle.bm_lines.specs.LineBatches.{with_item}
use Rattle.bm_msg.specs.declared.field.Field.{Field}
use Rattle.bm_msg.specs.declared.field.Field.TheVariants.{Text, Named, Rc}

-- the parts after one more field: a text is of the log stdio, a named text has letter o
abbrev pub with_field : List LogLines → Field → List LogLines
with_field parts (Text letter text) = with_item stdio (lines_of letter text) parts
with_field parts (Named name text) = with_item name (lines_of O text) parts
with_field parts (Rc z) = parts

-- the lines of an update under the name of each log, in the order of the list
abbrev pub carried : List Field → List LogLines
carried fields = fold with_field [] fields

abbrev pub exit_code_of : Field → Option ℤ
exit_code_of (Rc z) = Some z
exit_code_of _ = None

-- the exit code that counts is the last
abbrev pub last_rc : List Field → Option ℤ
last_rc [] = None
last_rc (f ∷ fs) = option_or (last_rc fs) (exit_code_of f)

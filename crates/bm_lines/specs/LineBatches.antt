-- What an update carries for each log.
use Rattle.std.specs.Prelude.{Bool, true, not, ◌&&◌, List, [], ◌∷◌, ◌++◌, map, filter, find, Option, bytes_eq, if◌then◌else◌}
use Rattle.std.specs.List.{list_any}
use Rattle.std.specs.Option.{option_map}
use Rattle.bm_lines.specs.Names.{Name}
use Rattle.bm_lines.specs.Lines.{Line}
use Rattle.bm_lines.specs.declared.line_batch.LogLines.{LogLines}

-- the names of the parts
abbrev pub names_of : List LogLines → List Name
names_of ps = map (λ (p : LogLines). p.name) ps

-- no name twice
abbrev pub are_distinct : List LogLines → Bool
are_distinct [] = true
are_distinct (p ∷ ps) = not (list_any (λ (q : LogLines). bytes_eq q.name p.name) ps) && are_distinct ps

-- the blocks of the parts with this name: one at most, where the names are distinct
abbrev pub blocks_under : Name → List LogLines → List (List Line)
blocks_under name ps = map (λ (p : LogLines). p.block) (filter (λ (p : LogLines). bytes_eq p.name name) ps)

-- the block of the first part with this name
abbrev pub block_under : Name → List LogLines → Option (List Line)
block_under name ps =
    option_map (λ (p : LogLines). p.block) (find (λ (p : LogLines). bytes_eq p.name name) ps)

-- the parts after the lines of one more item: behind those of its name, or as a new part at the end
abbrev pub with_item : Name → List Line → List LogLines → List LogLines
with_item name lines [] = record { name = name; block = lines } ∷ []
with_item name lines (p ∷ ps) =
    if bytes_eq p.name name then record { name = p.name; block = p.block ++ lines } ∷ ps
    else p ∷ with_item name lines ps

-- The items of an update (this project's profile).
use Rattle.std.specs.Prelude.{ℕ, Bool, ◌&&◌, List, [], ◌∷◌, ◌++◌, length, codes, Option, Some, None, bytes_eq, nat_le, if◌then◌else◌}
use Rattle.std.specs.Option.{option_map, option_and_then}
use Rattle.bm_value.specs.Tree.{Tree, str, int, array, Trees, none, item}
use Rattle.bm_lines.specs.declared.letter.Letter.{Letter}
use Rattle.bm_lines.specs.declared.letter.Letter.TheVariants.{O, E, H}
use Rattle.bm_msg.specs.declared.field.Field.{Field}
use Rattle.bm_msg.specs.declared.field.Field.TheVariants.{Text, Named, Rc}

-- the text of a value: a str, or the first item of an array where that is a str
abbrev pub text_of : Tree → Option (List ℕ)
text_of (str s) = Some s
text_of (array (item (str s) more)) = Some s
text_of _ = None

-- whether a name of a log has 1 to 255 bytes
abbrev pub is_log_name : List ℕ → Bool
is_log_name name = nat_le 1 (length name) && nat_le (length name) 255

abbrev pub lettered : Letter → Tree → Option (List Field)
lettered letter value = option_map (λ s. Text letter s ∷ []) (text_of value)

-- the first two items of an array: the name of a log and a text
abbrev pub named : Tree → Option (List Field)
named (array (item (str name) (item value more))) =
    if is_log_name name then option_map (λ s. Named name s ∷ []) (text_of value) else None
named _ = None

-- an integer, and else nothing
abbrev pub exit_code : Tree → List Field
exit_code (int z) = Rc z ∷ []
exit_code _ = []

-- what an item of this name and value carries, or None where the value is of another kind
abbrev pub carried_by : List ℕ → Tree → Option (List Field)
carried_by name value =
    if bytes_eq name (codes "stdout") then lettered O value else
    if bytes_eq name (codes "stderr") then lettered E value else
    if bytes_eq name (codes "header") then lettered H value else
    if bytes_eq name (codes "log") then named value else
    if bytes_eq name (codes "rc") then Some (exit_code value) else
    Some []

-- an item is an array of two: a name and a value
abbrev pub item_fields : Tree → Option (List Field)
item_fields (array (item (str name) (item value none))) = carried_by name value
item_fields _ = None

-- what the items carry, in order
abbrev pub fields_of : Trees → Option (List Field)
fields_of none = Some []
fields_of (item t ts) =
    option_and_then (λ front. option_map (λ back. front ++ back) (fields_of ts)) (item_fields t)

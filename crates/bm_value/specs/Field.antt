-- Looking up a key of a map.
use Rattle.std.specs.Prelude.{ℕ, List, Bool, false, Option, Some, None, bytes_eq, if◌then◌else◌}
use Rattle.std.specs.Option.{option_or}
use Rattle.bm_value.specs.Tree.{Tree, str, dict, Pairs, no_pairs, pair}

-- whether the tree is a str of these bytes
abbrev pub is_str : Tree → List ℕ → Bool
is_str (str s) text = bytes_eq s text
is_str _ text = false

-- the value of the last pair whose key is that str
abbrev pub last_with : List ℕ → Pairs → Option Tree
last_with key no_pairs = None
last_with key (pair k v ps) = option_or (last_with key ps) (if is_str k key then Some v else None)

-- The value of the last pair of the map whose key is that str. What is no map has no fields.
abbrev pub field : Tree → List ℕ → Option Tree
field (dict ps) key = last_with key ps
field _ key = None

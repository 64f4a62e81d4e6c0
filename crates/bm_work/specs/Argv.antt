-- The program and its words that a command's arguments name.
use Rattle.std.specs.Prelude.{ℕ, List, [], ◌∷◌, codes, Option, Some, None}
use Rattle.std.specs.Option.{option_map, option_and_then}
use Rattle.bm_value.specs.Tree.{Tree, str, array, Trees, none, item}
use Rattle.bm_value.specs.Field.{field}

abbrev pub str_of : Tree → Option (List ℕ)
str_of (str s) = Some s
str_of _ = None

-- the texts of an array of strs alone
abbrev pub strs_of : Trees → Option (List (List ℕ))
strs_of none = Some []
strs_of (item t ts) = option_and_then (λ s. option_map (λ more. s ∷ more) (strs_of ts)) (str_of t)

-- The words of a command. A shell runs a str. An array of at least one str and of strs alone is run
-- as it is.
abbrev pub words_of : Option Tree → Option (List (List ℕ))
words_of (Some (str s)) = Some (codes "sh" ∷ codes "-c" ∷ s ∷ [])
words_of (Some (array (item t ts))) = strs_of (item t ts)
words_of _ = None

-- the words that the key `command` of the arguments has, where the arguments are a map with such a
-- command
abbrev pub argv_of : Tree → Option (List (List ℕ))
argv_of args = words_of (field args (codes "command"))

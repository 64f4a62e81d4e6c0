-- The places that names have in a list.
use Rattle.std.specs.Prelude.{◌≡◌, ℕ, List, Option, bytes_eq, position}
use Rattle.std.specs.Option.{IfSome}
use Rattle.std.specs.BTreeMap.{get_by_text}
use Rattle.bm_lines.specs.Names.{Name}
use Rattle.bm_lines.specs.declared.name_table.NameTable.{NameTable}

-- the place that a table gives a name
abbrev pub place_in : NameTable → Name → Option ℕ
place_in table name = get_by_text table.places.value name

-- the first place of a name in a list of names
abbrev pub first_place : Name → List Name → Option ℕ
first_place name names = position (λ n. bytes_eq n name) names

-- the table gives each name its first place in the list, and no place to another
abbrev pub HasPlaces : NameTable → List Name → Type 0
HasPlaces table names = (name : Name) → place_in table name ≡ first_place name names

-- a list has no table, or a table that has its places
abbrev pub HasPlacesIfAny : Option NameTable → List Name → Type 0
HasPlacesIfAny table names = IfSome table (λ t. HasPlaces t names)

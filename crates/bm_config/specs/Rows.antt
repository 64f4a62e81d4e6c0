-- The rows of an array, each read after those before it, and what an answer of the code is by the
-- definition.
use Rattle.std.specs.Prelude.{◌≡◌, ℕ, nat_le, ◌&&◌, Bool, if◌then◌else◌, List, [], ◌∷◌, ◌++◌, length, Option, Some, None, option_and_then, is_some, option_map, Result, Ok, Err}
use Rattle.std.specs.List.{list_all}
use Rattle.toml.specs.Data.{Data, Members, as_array, as_table}
use Rattle.bm_config.specs.declared.keys.Key.{Key}
use Rattle.bm_config.specs.declared.fault.Fault.{Fault}
use Rattle.bm_config.specs.declared.fault.Fault.TheVariants.{At, Mem}
use Rattle.bm_config.specs.declared.place.Spot.{Spot}
use Rattle.bm_config.specs.Fields.{find, or_fault, meant_or, list_of}
use Rattle.bm_config.specs.Places.{placed, under}

-- what follows where nothing was at fault so far
abbrev pub and_then : {A B E : Type 0} → Result A E → (A → Result B E) → Result B E
and_then (Ok a) next = next a
and_then (Err fault) next = Err fault

-- the answer is what was said, or memory was refused
abbrev pub Gives : {A : Type 0} → Result A Spot → Result A Fault → Type 0
Gives said (Ok a) = said ≡ Ok a
Gives said (Err (At spot)) = said ≡ Err spot
Gives said (Err Mem) = Unit {0}

-- a fault, seen from outside of a row that it is in
abbrev pub fault_under : Key → ℕ → Fault → Fault
fault_under section number (At spot) =
    At (record { key = spot.key; place = under section number spot.place })
fault_under section number Mem = Mem

-- the elements of an array
abbrev pub elements : Data → Option (List Data)
elements d = option_map list_of (as_array d)

-- the table that a row is
abbrev pub table_of : Key → Data → Result Members Key
table_of key d = or_fault key (as_table d)

-- a table
abbrev pub is_table : Data → Bool
is_table d = is_some (as_table d)

-- The elements of an array of tables. A key's own form is judged before what stands in its value:
-- the array as a whole, then its tables in order. So `worker = [{}, 1]` is told as `worker`.
abbrev pub tables : Data → Option (List Data)
tables d = option_and_then (λ ds. if list_all is_table ds then Some ds else None) (elements d)

-- as many of them as are taken
abbrev pub counted : ℕ → ℕ → List Data → Option (List Data)
counted low high ds = if nat_le low (length ds) && nat_le (length ds) high then Some ds else None

-- the tables at a key: so many, or any number, where none may be missing
abbrev pub tables_at : ℕ → ℕ → Key → Members → Result (List Data) Key
tables_at low high key members =
    or_fault key (option_and_then (counted low high) (option_and_then tables (find key members)))

-- the tables at a key that may be missing
abbrev pub tables_or_none : Key → Members → Result (List Data) Key
tables_or_none key members = meant_or key [] tables (find key members)

-- at most so many of them
abbrev pub few_tables : ℕ → Key → Members → Result (List Data) Key
few_tables high key members =
    meant_or key [] (λ d. option_and_then (counted 0 high) (tables d)) (find key members)

-- the rows that elements make, each read after those before it
abbrev pub rows_after : {A : Type 0} → Key → (List A → Data → Result A Spot) → List A → List Data
    → Result (List A) Spot
rows_after section read before [] = Ok before
rows_after section read before (d ∷ ds) =
    and_then (placed section (length before) (read before d))
    (λ row. rows_after section read (before ++ row ∷ []) ds)

-- the rows of the array at this key
abbrev pub rows : {A : Type 0} → Key → (List A → Data → Result A Spot) → List Data
    → Result (List A) Spot
rows section read ds = rows_after section read [] ds

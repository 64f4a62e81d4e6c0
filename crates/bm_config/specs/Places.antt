-- Where in a configuration a key stands, and what it wants there.
use Rattle.std.specs.Prelude.{ℕ, List, ◌++◌, codes, decimal, Option, Some, None, Result, Ok, Err}
use Rattle.bm_config.specs.declared.keys.Key.{Key}
use Rattle.bm_config.specs.declared.keys.Key.TheVariants as keys
use Rattle.bm_config.specs.declared.place.ArrayRow.{ArrayRow}
use Rattle.bm_config.specs.declared.place.Place.{Place}
use Rattle.bm_config.specs.declared.place.Spot.{Spot}
use Rattle.bm_config.specs.Keys.{name_of}

-- the table of the whole text
abbrev pub top : Place
top = record { outer = None; inner = None }

-- a row of an array
abbrev pub row_of : Key → ℕ → ArrayRow
row_of key number = record { key = key; number = number }

-- the place, seen from outside of a row that it is in
abbrev pub under : Key → ℕ → Place → Place
under key number place = record { outer = Some (row_of key number); inner = place.outer }

-- a row of an array that stands in the place
abbrev pub inside : Option ArrayRow → ArrayRow → Place
inside None row = record { outer = Some row; inner = None }
inside (Some outer) row = record { outer = Some outer; inner = Some row }

abbrev pub within : Key → ℕ → Place → Place
within key number place = inside place.outer (row_of key number)

-- a key in the table of the whole text
abbrev pub bare : Key → Spot
bare key = record { key = key; place = top }

-- an answer on the whole text's table
abbrev pub alone : {A : Type 0} → Result A Key → Result A Spot
alone (Ok a) = Ok a
alone (Err key) = Err (bare key)

-- an answer on a row, seen from outside
abbrev pub placed : {A : Type 0} → Key → ℕ → Result A Spot → Result A Spot
placed section number (Ok a) = Ok a
placed section number (Err spot) =
    Err (record { key = spot.key; place = under section number spot.place })

-- the text of a row, and of a place
abbrev pub row_text : ArrayRow → List ℕ
row_text row = name_of row.key ++ (codes " " ++ decimal row.number)

abbrev pub rows_text : Option ArrayRow → Option ArrayRow → List ℕ
rows_text None inner = codes "configuration"
rows_text (Some outer) None = row_text outer
rows_text (Some outer) (Some inner) = row_text outer ++ (codes ", " ++ row_text inner)

abbrev pub place_text : Place → List ℕ
place_text place = rows_text place.outer place.inner

-- the key of the array that the place is a row of
abbrev pub section_in : Option ArrayRow → Option ArrayRow → Option Key
section_in None None = None
section_in (Some outer) None = Some outer.key
section_in outer (Some inner) = Some inner.key

abbrev pub section_of : Place → Option Key
section_of place = section_in place.outer place.inner

-- the values that a key takes in a row of this array
abbrev pub wanted : Key → Option Key → List ℕ
wanted keys.Listen section = codes "an IP address and a port, as \"127.0.0.1:9989\""
wanted keys.Web section = codes "an IP address and a port, as \"127.0.0.1:8010\""
wanted keys.Address section = codes "a text that isn't empty, HOST:PORT"
wanted keys.Capacity section = codes "a number from 1 to 65536"
wanted keys.Writers section = codes "a number from 1 to 64"
wanted keys.Remarks section = codes "\"text\" or \"json\""
wanted keys.Worker None = codes "1 to 64 tables [[worker]]"
wanted keys.Worker section = codes "the name of a worker"
wanted keys.Name (Some keys.Worker) = codes "a text that isn't empty and that no other worker has"
wanted keys.Name (Some keys.Lock) = codes "a text that no other lock has"
wanted keys.Name (Some keys.Locks) = codes "the name of a lock, each once in a build"
wanted keys.Name section = codes "a text"
wanted keys.Password section = codes "a text"
wanted keys.Slots section = codes "a number from 1 to 4"
wanted keys.Latent section = codes "an array of texts, the program first"
wanted keys.IdleTicks section = codes "a number from 1 to 2147483647"
wanted keys.ResumeTicks section = codes "a number from 0 to 2147483647"
wanted keys.Lock section = codes "tables [[lock]]"
wanted keys.Max section = codes "a number from 1 to 2147483647"
wanted keys.Build section = codes "at most 10000 tables [[build]]"
wanted keys.Locks section = codes "tables [[build.locks]]"
wanted keys.Mode section = codes "\"counting\" or \"exclusive\""
wanted keys.Step section = codes "tables [[build.step]]"
wanted keys.Command section = codes "an array of 1 to 10000 texts, of at most 900000 bytes together"
wanted keys.HaltOnFailure section = codes "true or false"
wanted keys.FlunkOnFailure section = codes "true or false"
wanted keys.AlwaysRun section = codes "true or false"
wanted keys.MaxBytes section = codes "a number from 0 to 4294967295"
wanted keys.TimeoutTicks section = codes "a number from 0 to 2147483647"
wanted keys.SilentTicks section = codes "a number from 0 to 2147483647"

abbrev pub expected_of : Spot → List ℕ
expected_of spot = wanted spot.key (section_of spot.place)

-- what is told of a key at fault
abbrev pub spot_text : Spot → List ℕ
spot_text spot =
    place_text spot.place
    ++ (codes ": " ++ (name_of spot.key ++ (codes ": expected " ++ expected_of spot)))

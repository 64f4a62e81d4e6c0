-- The keys of a configuration that nobody reads, each with its place and the known key that is
-- nearest to it.
use Rattle.std.specs.Prelude.{◌≡◌, ℕ, ◌+◌, ◌/◌, nat_lt, nat_eq, Bool, if◌then◌else◌, List, [], ◌∷◌, ◌++◌, length, bytes_eq, Option, Some, None, option_and_then}
use Rattle.std.specs.List.{list_any}
use Rattle.std.specs.Str.{chars}
use Rattle.strsim.specs.Edits.{levenshtein_row}
use Rattle.toml.specs.Data.{Data, Members, no_members, member, as_table}
use Rattle.toml.specs.Parse.{parse_document}
use Rattle.bm_config.specs.declared.keys.Key.{Key}
use Rattle.bm_config.specs.declared.keys.Key.TheVariants as keys
use Rattle.bm_config.specs.declared.place.Place.{Place}
use Rattle.bm_config.specs.declared.section.Section.{Section}
use Rattle.bm_config.specs.declared.section.Section.TheVariants as section
use Rattle.bm_config.specs.declared.unknown.UnknownKey.{UnknownKey}
use Rattle.bm_config.specs.Fields.{find}
use Rattle.bm_config.specs.Keys.{name_of}
use Rattle.bm_config.specs.Places.{top, within}
use Rattle.bm_config.specs.Rows.{elements}

-- the keys that are read of a table
abbrev pub keys_of : Section → List Key
keys_of section.Whole =
    keys.Listen ∷ keys.Web ∷ keys.Address ∷ keys.Capacity ∷ keys.Writers ∷ keys.Remarks
    ∷ keys.Worker ∷ keys.Lock ∷ keys.Build ∷ []
keys_of section.OfWorker =
    keys.Name ∷ keys.Password ∷ keys.Slots ∷ keys.Latent ∷ keys.IdleTicks ∷ keys.ResumeTicks ∷ []
keys_of section.OfLock = keys.Name ∷ keys.Max ∷ []
keys_of section.OfBuild = keys.Worker ∷ keys.Locks ∷ keys.Step ∷ []
keys_of section.OfUse = keys.Name ∷ keys.Mode ∷ []
keys_of section.OfStep =
    keys.Name ∷ keys.Command ∷ keys.HaltOnFailure ∷ keys.FlunkOnFailure ∷ keys.AlwaysRun
    ∷ keys.MaxBytes ∷ keys.TimeoutTicks ∷ keys.SilentTicks ∷ []

-- how many edits lead from the name to the key's
abbrev pub edits : List ℕ → Key → ℕ
edits name key =
    levenshtein_row nat_eq (chars name) (chars (name_of key)) (length (chars (name_of key)))

-- the first of these keys with the fewest edits, where that are fewer than the bound
abbrev pub nearest_after : List ℕ → ℕ → Option Key → List Key → Option Key
nearest_after name bound best [] = best
nearest_after name bound best (key ∷ more) =
    if nat_lt (edits name key) bound then nearest_after name (edits name key) (Some key) more
    else nearest_after name bound best more

-- the key that is meant: at most a third of the name's bytes is edited
abbrev pub nearest : List ℕ → List Key → Option Key
nearest name known = nearest_after name (length name / 3 + 1) None known

abbrev pub is_known : List Key → List ℕ → Bool
is_known known name = list_any (λ key. bytes_eq (name_of key) name) known

-- a key that isn't read
abbrev pub added : List Key → Place → List ℕ → List UnknownKey
added known place name =
    if is_known known name then []
    else record { place = place; key = name; near = nearest name known } ∷ []

-- the keys of a table that aren't read
abbrev pub unknown_in : List Key → Place → Members → List UnknownKey
unknown_in known place no_members = []
unknown_in known place (member name d more) = added known place name ++ unknown_in known place more

-- the elements of the array at a key, none where there is no array
abbrev pub list_or_none : Option (List Data) → List Data
list_or_none None = []
list_or_none (Some ds) = ds

abbrev pub rows_at : Key → Members → List Data
rows_at key m = list_or_none (option_and_then elements (find key m))

-- what is found in a row, none where it is no table
abbrev pub in_row : (ℕ → Members → List UnknownKey) → ℕ → Option Members → List UnknownKey
in_row see n None = []
in_row see n (Some m) = see n m

-- what is found in rows, the first of which has this number
abbrev pub in_rows : (ℕ → Members → List UnknownKey) → ℕ → List Data → List UnknownKey
in_rows see n [] = []
in_rows see n (d ∷ ds) = in_row see n (as_table d) ++ in_rows see (n + 1) ds

-- the same in the rows of the array at a key of a table, whose keys are read so
abbrev pub in_array : Section → Key → Place → Members → List UnknownKey
in_array kind key place m =
    in_rows (λ n row. unknown_in (keys_of kind) (within key n place) row) 0 (rows_at key m)

-- the same in a build
abbrev pub in_build : ℕ → Members → List UnknownKey
in_build n m =
    unknown_in (keys_of section.OfBuild) (within keys.Build n top) m
    ++ (in_array section.OfUse keys.Locks (within keys.Build n top) m
    ++ in_array section.OfStep keys.Step (within keys.Build n top) m)

-- all of a table, in the order of its sections
abbrev pub all_unknown : Members → List UnknownKey
all_unknown m =
    unknown_in (keys_of section.Whole) top m
    ++ (in_array section.OfWorker keys.Worker top m
    ++ (in_array section.OfLock keys.Lock top m
    ++ in_rows in_build 0 (rows_at keys.Build m)))

-- all of a text, none where it is no TOML
abbrev pub unknown_of : Option Members → List UnknownKey
unknown_of None = []
unknown_of (Some m) = all_unknown m

abbrev pub unknown_keys : List ℕ → List UnknownKey
unknown_keys text = unknown_of (parse_document text)

-- The logs of one command with a table of their names.
use Rattle.std.proofs.Common.{◌≡◌, refl, sym, ◌∙◌, ap, subst, ℕ, ◌+◌, ◌≤◌, ◌<◌, Bool, true, false, cond, not, List, [], ◌∷◌, ◌++◌, length, Option, Some, None, arith}
use Rattle.std.specs.Prelude.{bytes_eq, position, find, slice_get}
use Rattle.std.specs.List.{position_or_len}
use Rattle.std.specs.Option.{is_some}
use Rattle.std.proofs.lemmas.List.{map-append}
use Rattle.std.proofs.lemmas.List.Folds.{find_at}
use Rattle.std.proofs.lemmas.Option.{slice_get_past}
use Rattle.bm_lines.specs.Names.{Name}
use Rattle.bm_lines.specs.Places.{HasPlaces, HasPlacesIfAny, place_in}
use Rattle.bm_lines.specs.Lines.{Line}
use Rattle.bm_lines.specs.declared.name_table.NameTable.{NameTable}
use Rattle.bm_lines.proofs.FirstPlaces.{position-map}
use Rattle.bm_store.specs.Kept.{Named, names_kept, with_block}
use Rattle.bm_lines.proofs.FirstPlaces.{position-found, position-missing}
use Rattle.bm_store.proofs.Shelves.{is_named, with_block-new}

pub has_places-in : (o : Option NameTable) (table : NameTable) (names : List Name) → o ≡ Some table → HasPlacesIfAny o names → HasPlaces table names
has_places-in o table names is has = subst (λ x. HasPlacesIfAny x names) is has

pub no_table : (o : Option NameTable) (names : List Name) → is_some o ≡ false → HasPlacesIfAny o names
no_table None names h = tt
no_table (Some t) names h = absurd cc

-- what a table answers is the place of the log
pub place-known : (table : NameTable) (ls : List Named) (name : Name) → HasPlaces table (names_kept ls) → place_in table name ≡ position (is_named name) ls
place-known table ls name has = has name ∙ position-map (λ n. bytes_eq n name) (λ (l : Named). l.name) ls

-- a block under a name that is there leaves the names
pub names_kept-there : (ls : List Named) (name : Name) (block : List Line) → position_or_len (is_named name) ls < length ls → names_kept (with_block name block ls) ≡ names_kept ls
names_kept-there [] name block inside = absurd (omega arith)
names_kept-there (x ∷ xs) name block inside = go (bytes_eq x.name name) inside (names_kept-there xs name block)
  where
    go : (b : Bool) → cond (not b) (1 + position_or_len (is_named name) xs) 0 < length (x ∷ xs) → (position_or_len (is_named name) xs < length xs → names_kept (with_block name block xs) ≡ names_kept xs)
        → names_kept (cond b (record { name = x.name; blocks = x.blocks ++ block ∷ [] } ∷ xs) (x ∷ with_block name block xs)) ≡ names_kept (x ∷ xs)
    go true inside ih = refl
    go false inside ih = ap (λ ns. x.name ∷ ns) (ih (omega arith))

-- the names after a block under a name that is there
pub has_places-there : (table : NameTable) (ls : List Named) (name : Name) (block : List Line) (i : ℕ) → HasPlaces table (names_kept ls) → place_in table name ≡ Some i → HasPlaces table (names_kept (with_block name block ls))
has_places-there table ls name block i has there =
    let at = position-found (is_named name) ls i (sym (place-known table ls name has) ∙ there) in
    subst (HasPlaces table) (sym (names_kept-there ls name block (subst (λ n. n < length ls) at.0 at.1))) has

-- those after one under a new name
pub names_kept-new : (table : NameTable) (ls : List Named) (name : Name) (block : List Line) → HasPlaces table (names_kept ls) → place_in table name ≡ None → names_kept (with_block name block ls) ≡ names_kept ls ++ name ∷ []
names_kept-new table ls name block has absent =
    let past : length ls ≤ position_or_len (is_named name) ls = position-missing (is_named name) ls (sym (place-known table ls name has) ∙ absent) in
    ap names_kept (with_block-new ls name block past) ∙ map-append (λ (l : Named). l.name) ls (record { name = name; blocks = block ∷ [] } ∷ [])

-- what stands at the place that a table answers is what a walk finds
pub find-known : (table : NameTable) (ls : List Named) (name : Name) (i : ℕ) → HasPlaces table (names_kept ls) → place_in table name ≡ Some i → slice_get ls i ≡ find (is_named name) ls
find-known table ls name i has there =
    let at = position-found (is_named name) ls i (sym (place-known table ls name has) ∙ there) in
    ap (slice_get ls) at.0 ∙ sym (find_at (is_named name) ls)

pub find-unknown : (table : NameTable) (ls : List Named) (name : Name) → HasPlaces table (names_kept ls) → place_in table name ≡ None → None ≡ find (is_named name) ls
find-unknown table ls name has absent =
    let past : length ls ≤ position_or_len (is_named name) ls = position-missing (is_named name) ls (sym (place-known table ls name has) ∙ absent) in
    sym (slice_get_past ls (position_or_len (is_named name) ls) past) ∙ sym (find_at (is_named name) ls)

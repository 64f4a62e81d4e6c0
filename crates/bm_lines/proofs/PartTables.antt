-- Parts with a table of their names.
use Rattle.std.proofs.Common.{◌≡◌, refl, sym, ◌∙◌, ap, ℕ, ◌+◌, ◌≤◌, ◌<◌, Bool, true, false, cond, not, List, [], ◌∷◌, ◌++◌, length, Some, None, arith}
use Rattle.std.specs.Prelude.{bytes_eq}
use Rattle.std.specs.List.{position_or_len}
use Rattle.std.proofs.lemmas.List.{map-append, length-map}
use Rattle.bm_lines.specs.Names.{Name}
use Rattle.bm_lines.specs.Lines.{Line}
use Rattle.bm_lines.specs.declared.name_table.NameTable.{NameTable}
use Rattle.bm_lines.specs.declared.line_batch.LogLines.{LogLines}
use Rattle.bm_lines.specs.LineBatches.{names_of, with_item}
use Rattle.bm_lines.specs.Places.{HasPlaces, place_in}
use Rattle.bm_lines.proofs.PartLists.{with_item-past}
use Rattle.bm_lines.proofs.FirstPlaces.{position-map, position-found, position-missing}

pub place-found : (table : NameTable) (ps : List LogLines) (name : Name) (i : ℕ) → HasPlaces table (names_of ps) → place_in table name ≡ Some i → (i ≡ position_or_len (λ p. bytes_eq p.name name) ps) × (i < length ps)
place-found table ps name i has there = position-found (λ (p : LogLines). bytes_eq p.name name) ps i (sym (position-map (λ n. bytes_eq n name) (λ (p : LogLines). p.name) ps) ∙ sym (has name) ∙ there)

pub place-missing : (table : NameTable) (ps : List LogLines) (name : Name) → HasPlaces table (names_of ps) → place_in table name ≡ None → length ps ≤ position_or_len (λ p. bytes_eq p.name name) ps
place-missing table ps name has absent = position-missing (λ (p : LogLines). bytes_eq p.name name) ps (sym (position-map (λ n. bytes_eq n name) (λ (p : LogLines). p.name) ps) ∙ sym (has name) ∙ absent)

pub length-names : (ps : List LogLines) → length (names_of ps) ≡ length ps
length-names ps = length-map ps (λ (p : LogLines). p.name)

-- an item under a name that is there leaves the names
pub names_of-there : (ps : List LogLines) (name : Name) (lines : List Line) → position_or_len (λ p. bytes_eq p.name name) ps < length ps → names_of (with_item name lines ps) ≡ names_of ps
names_of-there [] name lines inside = absurd (omega arith)
names_of-there (x ∷ xs) name lines inside = go (bytes_eq x.name name) inside (names_of-there xs name lines)
  where
    go : (b : Bool) → cond (not b) (1 + position_or_len (λ p. bytes_eq p.name name) xs) 0 < length (x ∷ xs)
        → (position_or_len (λ p. bytes_eq p.name name) xs < length xs → names_of (with_item name lines xs) ≡ names_of xs)
        → names_of (cond b (record { name = x.name; block = x.block ++ lines } ∷ xs) (x ∷ with_item name lines xs)) ≡ names_of (x ∷ xs)
    go true inside ih = refl
    go false inside ih = ap (λ ns. x.name ∷ ns) (ih (omega arith))

-- one under a new name adds it at the end
pub names_of-new : (ps : List LogLines) (name : Name) (lines : List Line) → length ps ≤ position_or_len (λ p. bytes_eq p.name name) ps → names_of (with_item name lines ps) ≡ names_of ps ++ name ∷ []
names_of-new ps name lines past =
    ap names_of (sym (with_item-past ps name lines past)) ∙ map-append (λ (p : LogLines). p.name) ps (record { name = name; block = lines } ∷ [])

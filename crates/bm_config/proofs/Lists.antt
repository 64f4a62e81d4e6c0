-- The elements of an array as the code's slices show them.
use Rattle.std.proofs.Common.{◌≡◌, ℕ, ◌+◌, ◌<◌, List, [], ◌∷◌, length, get_or, drop, map, Some, None, refl, ap, sym}
use Rattle.std.proofs.Common.{Bool}
use Rattle.std.specs.List.{list_all}
use Rattle.std.proofs.lemmas.List.{drop_more}
use Rattle.std.proofs.lemmas.List.Folds.{list_all-map}
use Rattle.toml.specs.Data.{Data, as_array}
use Rattle.toml.specs.View.{view, items_view}
use Rattle.toml.specs.declared.value.Value.{Value}
use Rattle.bm_config.specs.Fields.{list_of}
use Rattle.bm_config.specs.Rows.{elements}

pub list_of-view : (vs : List Value) → list_of (items_view vs) ≡ map view vs
list_of-view [] = refl
list_of-view (v ∷ vs) = ap (λ ds. view v ∷ ds) (list_of-view vs)

-- what is left of a slice, one element on
pub left_more : (vs : List Value) (i : ℕ) (d : Value) → i < length vs
    → map view (drop i vs) ≡ view (get_or vs i d) ∷ map view (drop (i + 1) vs)
left_more vs i d h = ap (map view) (drop_more vs i d h)

-- what a slice shows of an array
pub elements_of : (d : Data) (vs : List Value) → Some (items_view vs) ≡ as_array d → Some (map view vs) ≡ elements d
elements_of d vs e = rw (← e) (ap Some (sym (list_of-view vs)))

pub elements_none : (d : Data) → None ≡ as_array d → None ≡ elements d
elements_none d e = rw (← e) refl

-- a test of each element
pub all_viewed : (p : Data → Bool) (vs : List Value) → list_all p (map view vs) ≡ list_all (λ v. p (view v)) vs
all_viewed p vs = list_all-map p view vs

-- Viewers at the places of their lanes.
use Rattle.std.proofs.Common.{◌≡◌, ◌<◌, ◌∙◌, ◌↔◌, ℕ, zero, suc, List, [], ◌∷◌, Option, Some, None, inl, inr, length, refl, sym, ap}
use Rattle.std.specs.Prelude.{slice_get, slice_set, MatchOption, IfSome}
use Rattle.std.proofs.lemmas.Option.{same_Some}
use native.Mathlib.Omega.{arith}
use Rattle.bm_lane.specs.Ends.{Watched}
use Rattle.bm_http.specs.Placed.{IsMissing, IsPlaced}

-- where nothing lies, nothing is taken
unset : {W : Type 0} (ps : List (Option W)) (i : ℕ) → slice_get ps i ≡ Some None → slice_set ps i None ≡ ps
unset [] i h = refl
unset (p ∷ ps) zero h = cc h
unset (p ∷ ps) (suc i) h = ap (λ qs. p ∷ qs) (unset ps i h)

pub place-taken : {W : Type 0} (ps : List (Option W)) (i : ℕ) (o : Option W) → slice_get ps i ≡ Some o
    → MatchOption o (slice_set ps i None ≡ ps) (λ v. (slice_get ps i ≡ Some (Some v)) × (slice_set ps i None ≡ slice_set ps i None))
place-taken ps i None h = unset ps i h
place-taken ps i (Some v) h = (h, refl)

-- what lies at a place is of that lane
pub place-own : (ps : List (Option Watched)) → IsPlaced ps → (i : ℕ) (o : Option Watched) → slice_get ps i ≡ Some o → IfSome o (λ v. v.lane ≡ i)
place-own ps p i None h = tt
place-own ps p i (Some v) h = p i v h

-- what lies at a place is none exactly where the lane's viewer is missing
pub place-missing : (ps : List (Option Watched)) (i : ℕ) (o : Option Watched) → slice_get ps i ≡ Some o → i < length ps → (o ≡ None) ↔ IsMissing ps i
place-missing ps i o is within = (
  λ none. inl (is ∙ ap (λ p. Some p) none),
  λ missing. elim missing [
    | inl away ↦ same_Some o None (sym is ∙ away)
    | inr past ↦ absurd (omega (arith, within, past))
  ],
)

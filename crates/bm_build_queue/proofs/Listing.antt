-- A list that grew by one at its end.
use Rattle.std.proofs.Common.{◌≡◌, ℕ, List, [], ◌∷◌, ◌++◌, length, zero, suc, Some, ap, subst, sym}
use Rattle.std.specs.List.{slice_get}
use Rattle.std.specs.Option.{option_map_or, is_some}
use Rattle.std.proofs.lemmas.Bool.{true≢false}

-- what holds of each entry and its place holds with one more, where it holds of that
pub listed : {X : Type 0} (P : ℕ → X → Type 0) (all : List X) (x : X) → ((n : ℕ) (r : X) → slice_get all n ≡ Some r → P n r) → P (length all) x
    → (n : ℕ) (r : X) → slice_get (all ++ x ∷ []) n ≡ Some r → P n r
listed P [] x each last zero r e = subst (P 0) (ap (λ o. option_map_or (λ v. v) o x) e) last
listed P [] x each last (suc n) r e = absurd (true≢false (sym (ap is_some e)))
listed P (y ∷ ys) x each last zero r e = each 0 r e
listed P (y ∷ ys) x each last (suc n) r e = listed (λ k. P (suc k)) ys x (λ k. each (suc k)) last n r e

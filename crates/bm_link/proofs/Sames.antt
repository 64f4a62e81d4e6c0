-- Texts that are compared byte by byte.
use Rattle.std.proofs.Common.{◌≡◌, ◌∙◌, sym, ap, arith, ℕ, ◌≤◌, Bool, List, length, take, bytes_eq, min}
use Rattle.std.specs.Prelude.{◌↔◌, IsTrue}
use Rattle.std.proofs.lemmas.List.{take_all}
use Rattle.std.proofs.lemmas.Bool.Decides.{same_from_decides}
use Rattle.std.proofs.lemmas.Slice.Eq.{bytes_eq-Decides}

-- what a comparison knows once it has seen the first n places of both
abbrev pub IsSeen : Bool → List ℕ → List ℕ → ℕ → Type 0
IsSeen same left right n = IsTrue same ↔ ((length left ≡ length right) × (take n left ≡ take n right))

whole : (left right : List ℕ) (n : ℕ) → min (length left) (length right) ≤ n → length left ≡ length right → take n left ≡ take n right → left ≡ right
whole left right n all long same =
    let l : length left ≤ n = omega arith in
    let r : length right ≤ n = omega arith in
    sym (take_all n left l) ∙ same ∙ take_all n right r

-- once all places are seen, it knows whether they are the same
pub is_seen_whole : (same : Bool) (left right : List ℕ) (n : ℕ) → IsSeen same left right n → min (length left) (length right) ≤ n → same ≡ bytes_eq left right
is_seen_whole same left right n seen all =
    same_from_decides same (bytes_eq left right)
    ((λ h. whole left right n all (seen.0 h).0 (seen.0 h).1), (λ e. seen.1 (ap length e, ap (take n) e)))
    (bytes_eq-Decides left right)

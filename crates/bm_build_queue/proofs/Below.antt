-- What holds below a number and at it holds below the next one.
use Rattle.std.proofs.Common.{◌≡◌, ℕ, ◌+◌, ◌<◌, ◌⊎◌, sym, subst, arith, inl, inr}
use Rattle.std.proofs.Math.Nat.{eq-or-lt_of_le}

each : (P : ℕ → Type 0) (n k : ℕ) → ((i : ℕ) → i < n → P i) → P n → (k ≡ n) ⊎ (k < n) → P k
each P n k before here (inl same) = subst P (sym same) here
each P n k before here (inr less) = before k less

pub below_more : (P : ℕ → Type 0) (n : ℕ) → ((i : ℕ) → i < n → P i) → P n → (k : ℕ) → k < n + 1 → P k
below_more P n before here k less = each P n k before here (eq-or-lt_of_le (omega arith))

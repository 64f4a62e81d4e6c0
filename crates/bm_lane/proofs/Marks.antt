-- Two beginnings of one list.
use Rattle.std.proofs.Common.{◌≤◌, List, length, sym, subst, inl, inr}
use mathlib.Core.List.{IsPrefix}
use Rattle.bm_session.proofs.Visible.{compared}
use Rattle.bm_lane.proofs.Prefixes.{prefix_self, prefix_whole}

-- the shorter of two beginnings of a list is a beginning of the other
pub prefix_shorter : {A : Type 0} (xs ys ts : List A) → IsPrefix xs ts → IsPrefix ys ts → length xs ≤ length ys → IsPrefix xs ys
prefix_shorter xs ys ts p q le =
    elim (compared xs ys ts p q) [
      | inl h ↦ h
      | inr h ↦ subst (λ zs. IsPrefix xs zs) (sym (prefix_whole ys xs h le)) (prefix_self xs)
    ]

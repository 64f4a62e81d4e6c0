-- Lists of one item.
use Rattle.std.proofs.Common.{◌≡◌, ◌≤◌, List, [], ◌∷◌, length, refl, arith}
use Rattle.bm_session.specs.declared.item.Item.{Item}

pub one_of_few : (l : List Item) → length l ≤ 1 → ¬ (l ≡ []) → (x : Item) × (l ≡ x ∷ [])
one_of_few [] few some = absurd (some refl)
one_of_few (x ∷ []) few some = (x, refl)
one_of_few (x ∷ y ∷ l) few some = absurd (omega arith)

pub same_head : (x y : Item) → x ∷ [] ≡ y ∷ [] → x ≡ y
same_head x y e = cc

-- The pick of queues and copies by place is right at each place, and the ends come in order.
use Rattle.std.proofs.Common.{◌≡◌, ℕ, suc, ◌+◌, List, [], ◌∷◌, ◌++◌, map, ap, ◌∙◌, arith, append_assoc}
use Rattle.std.proofs.lemmas.List.{map-append}
use Rattle.bm_lane.specs.Ends.{Blanked}
use Rattle.bm_lane.specs.Fronts.{HistoryId}
use Rattle.bm_lane.specs.Placed.{TableId, queue_at, copy_at, ArePlaced}

placed_from : (bs : List Blanked) (queue : ℕ → TableId) (copy : ℕ → HistoryId) (n : ℕ)
    → ((i : ℕ) → queue_at bs i ≡ queue (n + i)) → ((i : ℕ) → copy_at bs i ≡ copy (n + i)) → ArePlaced queue copy n bs
placed_from [] queue copy n q c = tt
placed_from (b ∷ bs) queue copy n q c = (
  q 0 ∙ ap queue (omega arith),
  c 0 ∙ ap copy (omega arith),
  placed_from bs queue copy (n + 1) (λ i. q (suc i) ∙ ap queue (omega arith)) (λ i. c (suc i) ∙ ap copy (omega arith)),
)

-- for the one call that picks the queues and the copies of all lanes
pub placed_by_place : (bs : List Blanked) → ArePlaced (λ i. queue_at bs i) (λ i. copy_at bs i) 0 bs
placed_by_place bs = placed_from bs (λ i. queue_at bs i) (λ i. copy_at bs i) 0 (λ i. ap (λ j. queue_at bs j) (omega arith)) (λ i. ap (λ j. copy_at bs j) (omega arith))

-- one more at the end of what was made, and one less of what is to come
pub made_more : {A B : Type 0} (f : A → B) (old new : List A) (a : A) (b : B) (rest whole : List B) → new ≡ old ++ a ∷ [] → f a ≡ b → map f old ++ b ∷ rest ≡ whole → map f new ++ rest ≡ whole
made_more f old new a b rest whole grown same all =
    ap (λ xs. map f xs ++ rest) grown ∙ ap (λ bs. bs ++ rest) (map-append f old (a ∷ [])) ∙ append_assoc (map f old) (f a ∷ []) rest ∙ ap (λ c. map f old ++ c ∷ rest) same ∙ all

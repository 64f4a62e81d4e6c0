-- A step that only adds to the history keeps the rule.
use Rattle.std.proofs.Common.{◌≡◌, ◌≢◌, ℕ, List, [], ◌∷◌, set, Some, None, refl, ap, ◌∙◌, subst, ⊎_elim}
use mathlib.Core.Option.{some}
use mathlib.Core.List.{IsPrefix}
use lib.ListN.{get_elem?}
use Rattle.crossbeam_utils.specs.Register.{TurnsAt, Turns, Admits, Forks, Merges}
use Rattle.atomic_table.proofs.Lists.{at_set, at_snoc}
use Rattle.bm_lane.proofs.Prefixes.{prefix_self, prefix_trans}
use Rattle.bm_lane.specs.declared.published.Published.{Published}
use Rattle.bm_lane.specs.Fronts.{Front}
use Rattle.bm_lane.specs.Copies.{Sight, IsBook, Begins, Keeps, Shows}

itself : (x : Published) (s : Front) → Some x.front ≡ Some s → Begins s x
itself x s is = let q : x.front ≡ s = cc in (ap (λ (f : Front). f.book) q, subst (λ (f : Front). IsPrefix f.log x.front.log) q (prefix_self x.front.log))

pub grows : (seat : ℕ) (v : Sight) (x y : Published) → (IsBook x → IsBook y) → y.front.book ≡ x.front.book → IsPrefix x.front.log y.front.log → TurnsAt Keeps seat v x y Shows
grows seat v x y whole same more views h at =
    let up : (s : Front) → Begins s x → Begins s y = λ s b. (same ∙ b.0, prefix_trans s.log x.front.log y.front.log b.1 more) in (
      Some y.front,
      (
        whole h.0,
        λ j s e. ⊎_elim
            (λ (t : (j ≡ seat) × (Some y.front ≡ Some s)). itself y s t.1)
            (λ (t : (j ≢ seat) × (get_elem? views j ≡ some (Some s))). up s (h.1 j s t.1))
            (at_set views seat j (Some y.front) (Some s) e),
      ),
      (refl, whole h.0, λ s is. up s (h.1 seat s (at ∙ ap some is))),
    )

pub looks : (seat : ℕ) (v : Sight) → Turns Keeps seat v (λ x. x) Shows
looks seat v x = grows seat v x x (λ h. h) refl (prefix_self x.front.log)

nothing : (s : Front) → None ≡ Some s → ⊥
nothing s e = cc

pub begins : (x : Published) → IsBook x → Keeps x (None ∷ [])
begins x whole = (whole, λ j s e. ⊎_elim (λ (t : get_elem? [] j ≡ some (Some s)). absurd (none_there j s t)) (λ (t : None ≡ Some s). absurd (nothing s t)) (at_snoc [] None (Some s) j e))
  where
    none_there : (j : ℕ) (s : Front) → get_elem? [] j ≡ some (Some s) → ⊥
    none_there j s t = cc

pub admits : Admits Keeps None
admits x views h = (h.0, λ j s e. ⊎_elim (λ (t : get_elem? views j ≡ some (Some s)). h.1 j s t) (λ (t : None ≡ Some s). absurd (nothing s t)) (at_snoc views None (Some s) j e))

kept_set : (x : Published) (views : List Sight) (seat : ℕ) (v : Sight) → Keeps x views → ((s : Front) → v ≡ Some s → Begins s x) → Keeps x (set views seat v)
kept_set x views seat v h mine =
    (h.0, λ j s e. ⊎_elim (λ (t : (j ≡ seat) × (v ≡ Some s)). mine s t.1) (λ (t : (j ≢ seat) × (get_elem? views j ≡ some (Some s))). h.1 j s t.1) (at_set views seat j v (Some s) e))

pub tells : (seat : ℕ) (v : Sight) → Forks Keeps seat v v v
tells seat v x views h at =
    let mine : (s : Front) → v ≡ Some s → Begins s x = λ s is. h.1 seat s (at ∙ ap some is) in
    let k = kept_set x views seat v h mine in
    (h.0, λ j s e. ⊎_elim (λ t. k.1 j s t) (λ t. mine s t) (at_snoc (set views seat v) v (Some s) j e))

pub learns : (seat : ℕ) (v : Sight) (other : ℕ) (w : Sight) → Merges Keeps seat v other w w None
learns seat v other w x views h at apart there =
    let theirs : (s : Front) → w ≡ Some s → Begins s x = λ s is. ⊎_elim
    (λ (t : (other ≡ seat) × (w ≡ w)). absurd (apart t.0))
    (λ (t : (other ≢ seat) × (get_elem? views other ≡ some w)). h.1 other s (t.1 ∙ ap some is))
    (at_set views seat other w w there) in
    kept_set x (set views seat w) other None (kept_set x views seat w h theirs) (λ s e. absurd (nothing s e))

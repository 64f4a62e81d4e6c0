-- The ends of one lane more at the end of each list.
use Rattle.std.proofs.Common.{◌≡◌, ℕ, ◌+◌, ◌-◌, ◌∙◌, List, [], ◌∷◌, ◌++◌, length, map, take, ap, sym, arith, refl, Some, slice_get, vec_capacity}
use Rattle.std.proofs.lemmas.List.{map-append, length-append}
use Rattle.std.proofs.Math.Seq.{take-append_seam}
use Rattle.bm_lane.specs.Ends.{Watched}
use Rattle.bm_lane.specs.declared.blank.Ends.{Ends}
use Rattle.bm_build_queue.specs.ViewerPool.{PoolState}
use Rattle.bm_lanes.specs.Dealt.{pool_of}

pub mapped_more : {A B C : Type 0} (f : A → C) (h : B → C) (xs ys : List A) (x : A) (all : List B) (e : B)
    → ys ≡ xs ++ x ∷ [] → f x ≡ h e → map f xs ≡ map h all → map f ys ≡ map h (all ++ e ∷ [])
mapped_more f h xs ys x all e grown one before =
    ap (λ zs. map f zs) grown ∙ map-append f xs (x ∷ [])
    ∙ ap (λ zs. zs ++ f x ∷ []) before ∙ ap (λ z. map h all ++ z ∷ []) one
    ∙ sym (map-append h all (e ∷ []))

pub counted_more : {A B : Type 0} (xs ys : List A) (x : A) (all : List B) (e : B)
    → ys ≡ xs ++ x ∷ [] → length xs ≡ length all → length ys ≡ length (all ++ e ∷ [])
counted_more xs ys x all e grown before =
    ap length grown ∙ length-append xs (x ∷ []) ∙ ap (λ n. n + 1) before ∙ sym (length-append all (e ∷ []))

last_place : (xs : List Watched) (v : Watched) → length (xs ++ v ∷ []) - 1 ≡ length xs
last_place xs v = ap (λ n. n - 1) (length-append xs (v ∷ [])) ∙ omega arith

at_the_seam : (xs : List Watched) (v : Watched) → slice_get (xs ++ v ∷ []) (length xs) ≡ Some v
at_the_seam [] v = refl
at_the_seam (x ∷ xs) v = at_the_seam xs v

pub rest_is : (all xs : List Watched) (v : Watched) → all ≡ xs ++ v ∷ [] → take (length all - 1) all ≡ xs
rest_is all xs v split =
    ap (λ vs. take (length vs - 1) vs) split ∙ ap (λ n. take n (xs ++ v ∷ [])) (last_place xs v)
    ∙ take-append_seam xs (v ∷ [])

pub last_is : (all xs : List Watched) (v : Watched) → all ≡ xs ++ v ∷ [] → slice_get all (length all - 1) ≡ Some v
last_is all xs v split =
    ap (λ vs. slice_get vs (length vs - 1)) split ∙ ap (λ n. slice_get (xs ++ v ∷ []) n) (last_place xs v)
    ∙ at_the_seam xs v

pub pool_is : {Y W : Type 0} (e : Ends Y W) (p : PoolState) (lane room : ℕ) (viewers : List Watched)
    → p ≡ record { lane = lane; room = room; viewers = viewers } → lane ≡ e.reader.lane → room ≡ vec_capacity e.viewers
    → take (length e.viewers.items - 1) e.viewers.items ≡ viewers → p ≡ pool_of e
pool_is e p lane room viewers made own whole rest =
    made ∙ (λ i. record { lane = own i; room = whole i; viewers = sym rest i })

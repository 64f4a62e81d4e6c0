-- What a loop over the viewers collects.
use Rattle.std.proofs.Common.{◌≡◌, ℕ, ◌+◌, ◌<◌, List, [], ◌∷◌, ◌++◌, length, take, get_or, ap, ◌∙◌, subst}
use Rattle.std.proofs.lemmas.List.{map-append, take_more, get_or_default}
use Rattle.bm_session.specs.declared.item.Item.{Item}
use mathlib.Core.List.{IsPrefix}
use borrow.Author.Count.{below_more}
use Rattle.bm_lane.specs.Ends.{Watched, seen_counts}

pub counts_more : (vs : List Watched) (i : ℕ) (v : Watched) → i < length vs → get_or vs i v ≡ v → seen_counts (take (i + 1) vs) ≡ seen_counts (take i vs) ++ length v.seen ∷ []
counts_more vs i v h is = ap seen_counts (take_more vs i v h) ∙ map-append (λ (w : Watched). length w.seen) (take i vs) (get_or vs i v ∷ []) ∙ ap (λ (w : Watched). seen_counts (take i vs) ++ length w.seen ∷ []) is

pub one_more : (vs : List Watched) (i : ℕ) (shown : List Item) (v : Watched) → i < length vs → v ≡ get_or vs i v → IsPrefix v.seen shown
    → ((k : ℕ) → k < i → (d : Watched) → IsPrefix (get_or vs k d).seen shown) → (k : ℕ) → k < i + 1 → (d : Watched) → IsPrefix (get_or vs k d).seen shown
one_more vs i shown v h is p below =
    below_more (λ (k : ℕ). (d : Watched) → IsPrefix (get_or vs k d).seen shown) i below
    (λ d. subst (λ (w : Watched). IsPrefix w.seen shown) (is ∙ get_or_default vs i v d h) p)

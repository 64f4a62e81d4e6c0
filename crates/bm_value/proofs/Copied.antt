-- Copying one after the other.
use Rattle.std.proofs.Common.{◌≡◌, ℕ, ◌+◌, ◌<◌, ◌≤◌, List, [], ◌∷◌, ◌++◌, length, get_or, take, map, sym, ap, ◌∙◌}
use Rattle.std.proofs.lemmas.List.{take_more, take_all, map_push}

-- one more is copied
pub map_more : {X Y T : Type 0} (f : X → T) (h : Y → T) (made : List Y) (xs : List X) (i : ℕ) (x : X) (y : Y) → i < length xs → x ≡ get_or xs i x → h y ≡ f x → map h made ≡ map f (take i xs)
    → map h (made ++ y ∷ []) ≡ map f (take (i + 1) xs)
map_more f h made xs i x y lt is same so_far =
    map_push h made y ∙ ap (λ w. map h made ++ w ∷ []) same ∙ ap (λ w. w ++ f x ∷ []) so_far
    ∙ sym (ap (map f) (take_more xs i x lt ∙ ap (λ w. take i xs ++ w ∷ []) (sym is)) ∙ map_push f (take i xs) x)

-- all are copied
pub map_whole : {X T : Type 0} (f : X → T) (made : List T) (xs ys : List X) (i : ℕ) → xs ≡ ys → length xs ≤ i → made ≡ map f (take i xs) → made ≡ map f ys
map_whole f made xs ys i same le e = e ∙ ap (map f) (take_all i xs le ∙ same)

-- Blocks with their places.
use Rattle.std.proofs.Common.{◌≡◌, refl, sym, ◌∙◌, ap, ℕ, zero, suc, ◌+◌, List, [], ◌∷◌, ◌++◌, length, take, Some, arith, length-append}
use Rattle.std.specs.Prelude.{map, slice_get}
use Rattle.std.proofs.lemmas.List.{append-nil, map-append}
use Rattle.std.proofs.lemmas.List.Concat.{flat_map-append}
use Rattle.bm_lines.specs.Lines.{Line}
use Rattle.bm_session.specs.Trace.{joined}
use Rattle.bm_store.specs.declared.placed.Placed.{Placed}
use Rattle.bm_store.specs.Book.{placed, placed_after}
use Rattle.bm_store.specs.Placing.{block_at, IsPlacing}

-- without the places these are the blocks
pub block_at-placed : (n : ℕ) (bs : List (List Line)) → map block_at (placed_after n bs) ≡ bs
block_at-placed n [] = refl
block_at-placed n (b ∷ bs) = ap (λ l. b ∷ l) (block_at-placed (n + length b) bs)

placed_after-push : (n : ℕ) (bs : List (List Line)) (b : List Line) → placed_after n (bs ++ b ∷ []) ≡ placed_after n bs ++ record { first = n + length (joined bs); block = b } ∷ []
placed_after-push n [] b = ap (λ m. (record { first = m; block = b }) ∷ []) (omega arith)
placed_after-push n (c ∷ cs) b =
    let more : length (joined (c ∷ cs)) ≡ length c + length (joined cs) = length-append c (joined cs) in
    let same : n + length c + length (joined cs) ≡ n + length (joined (c ∷ cs)) = omega arith in
    ap (λ l. (record { first = n; block = c }) ∷ l) (placed_after-push (n + length c) cs b)
    ∙ ap (λ m. (record { first = n; block = c }) ∷ (placed_after (n + length c) cs ++ (record { first = m; block = b }) ∷ [])) same

placed_after-take : (n i : ℕ) (bs : List (List Line)) → take i (placed_after n bs) ≡ placed_after n (take i bs)
placed_after-take n zero bs = refl
placed_after-take n (suc i) [] = refl
placed_after-take n (suc i) (b ∷ bs) = ap (λ l. (record { first = n; block = b }) ∷ l) (placed_after-take (n + length b) i bs)

pub map-take : {A B : Type 0} (f : A → B) (i : ℕ) (xs : List A) → map f (take i xs) ≡ take i (map f xs)
map-take f zero xs = refl
map-take f (suc i) [] = refl
map-take f (suc i) (x ∷ xs) = ap (λ l. f x ∷ l) (map-take f i xs)

-- one block more at its place
pub IsPlacing-push : (ps : List Placed) (p : Placed) (lines : ℕ) → IsPlacing ps p.first → lines ≡ p.first + length p.block → IsPlacing (ps ++ p ∷ []) lines
IsPlacing-push ps p lines h sum =
    let at : p.first ≡ length (joined (map block_at ps)) = h.counted in
    let place : p.first ≡ 0 + length (joined (map block_at ps)) = omega arith in
    let one : length (joined (p.block ∷ [])) ≡ length p.block = ap length (append-nil p.block) in
    let all : length (joined (map block_at (ps ++ p ∷ []))) ≡ length (joined (map block_at ps)) + length (joined (p.block ∷ [])) =
    ap (λ bs. length (joined bs)) (map-append block_at ps (p ∷ []))
    ∙ ap length (flat_map-append (λ (b : List Line). b) (map block_at ps) (p.block ∷ []))
    ∙ length-append (joined (map block_at ps)) (joined (p.block ∷ [])) in
    record {
      exact =
          ap (λ l. l ++ p ∷ []) h.exact
          ∙ ap (λ m. placed (map block_at ps) ++ (record { first = m; block = p.block }) ∷ []) place
          ∙ sym (placed_after-push 0 (map block_at ps) p.block)
          ∙ ap placed (sym (map-append block_at ps (p ∷ [])));
      counted = omega arith;
    }

pub placed_after-length : (n : ℕ) (bs : List (List Line)) → length (placed_after n bs) ≡ length bs
placed_after-length n [] = refl
placed_after-length n (b ∷ bs) = ap suc (placed_after-length (n + length b) bs)

-- a block stands after the lines of those before it
pub place-at : (n i : ℕ) (bs : List (List Line)) (p : Placed) → slice_get (placed_after n bs) i ≡ Some p → p.first ≡ n + length (joined (take i bs))
place-at n i [] p h = cc
place-at n zero (b ∷ bs) p h = let same : p ≡ record { first = n; block = b } = cc in ap (λ (q : Placed). q.first) same ∙ omega arith
place-at n (suc i) (b ∷ bs) p h =
    let more : length (joined (b ∷ take i bs)) ≡ length b + length (joined (take i bs)) = length-append b (joined (take i bs)) in
    place-at (n + length b) i bs p h ∙ omega arith

get-at : (ps : List Placed) (p : Placed) (i : ℕ) → i ≡ length ps → slice_get (ps ++ p ∷ []) i ≡ Some p
get-at [] p zero e = refl
get-at [] p (suc i) e = absurd (omega arith)
get-at (q ∷ qs) p zero e = absurd (omega arith)
get-at (q ∷ qs) p (suc i) e = get-at qs p i (omega arith)

take-front : (ps : List Placed) (p : Placed) (i : ℕ) → i ≡ length ps → take i (ps ++ p ∷ []) ≡ ps
take-front [] p i e = ap (λ m. take m (p ∷ [])) e
take-front (q ∷ qs) p zero e = absurd (omega arith)
take-front (q ∷ qs) p (suc i) e = ap (λ l. q ∷ l) (take-front qs p i (omega arith))

-- one block less
pub IsPlacing-pop : (ps rest : List Placed) (last : Placed) (lines : ℕ) → IsPlacing ps lines → ps ≡ rest ++ last ∷ [] → IsPlacing rest last.first
IsPlacing-pop ps rest last lines h e =
    let front : take (length rest) ps ≡ rest = ap (take (length rest)) e ∙ take-front rest last (length rest) refl in
    let blocks : take (length rest) (map block_at ps) ≡ map block_at rest = sym (map-take block_at (length rest) ps) ∙ ap (map block_at) front in
    let at : slice_get (placed (map block_at ps)) (length rest) ≡ Some last = ap (λ l. slice_get l (length rest)) (sym h.exact ∙ e) ∙ get-at rest last (length rest) refl in
    let place : last.first ≡ 0 + length (joined (take (length rest) (map block_at ps))) = place-at 0 (length rest) (map block_at ps) last at in
    let size : length (joined (take (length rest) (map block_at ps))) ≡ length (joined (map block_at rest)) = ap (λ bs. length (joined bs)) blocks in
    record {
      exact = sym front ∙ ap (take (length rest)) h.exact ∙ placed_after-take 0 (length rest) (map block_at ps) ∙ ap placed blocks;
      counted = omega arith;
    }

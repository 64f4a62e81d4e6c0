-- What a pattern that is a reference to a text replaces is what the text replaces.
use Rattle.std.proofs.Common.{◌≡◌, ℕ, zero, suc, List, [], ◌∷◌, ◌++◌, inl, inr}
use Rattle.bm_operator.specs.ProgramWords.{IsPlaced, IsEachPlaced}
use Rattle.std.specs.Borrow.{Bor}
use Rattle.std.specs.Str.Pattern.{FindsText}
use Rattle.std.specs.Str.Replace.{ReplacesMatches, ContinuesAfterMatch}

-- what follows a match, where what follows it means more
continues : (On More : List ℕ → List ℕ → Type 0) → ((s out : List ℕ) → On s out → More s out) → (to s : List ℕ) (a b : ℕ) (rest : List ℕ) → ContinuesAfterMatch (λ (p : Bor (List ℕ)). FindsText p.now) (λ p q. q.now ≡ p.now) to On s a b rest → ContinuesAfterMatch FindsText (λ p q. q ≡ p) to More s a b rest
continues On More more to s a b rest (inl (l, on)) = inl (l, more _ _ on)
continues On More more to s a b rest (inr (e, inl h)) = inr (e, inl h)
continues On More more to s a b rest (inr (e, inr (c, t, left, d, on, o))) = inr (e, inr (c, t, left, d, more _ _ on, o))

pub by_texts : (n : ℕ) (p : Bor (List ℕ)) (to s out : List ℕ) → ReplacesMatches (λ (p : Bor (List ℕ)). FindsText p.now) (λ p q. q.now ≡ p.now) to n p s out → ReplacesMatches FindsText (λ p q. q ≡ p) to n p.now s out
by_texts zero p to s out h = h
by_texts (suc n) p to s out (a, b, q, rest, found, kept, goes, e) =
    (a, b, q.now, rest, found, kept, continues _ _ (λ s out. by_texts n q to s out) to s a b rest goes, e)

-- the words and one more
pub and_one : (master : List ℕ) (words all : List (List ℕ)) (word placed : List ℕ) → IsEachPlaced master words all → IsPlaced master word placed → IsEachPlaced master (words ++ word ∷ []) (all ++ placed ∷ [])
and_one master [] [] word placed each one = (one, tt)
and_one master (w ∷ ws) (p ∷ ps) word placed (first, each) one = (first, and_one master ws ps word placed each one)
and_one master [] (p ∷ ps) word placed each one = absurd each
and_one master (w ∷ ws) [] word placed each one = absurd each

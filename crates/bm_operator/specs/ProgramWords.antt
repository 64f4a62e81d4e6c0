-- The words of a program that starts a worker.
use Rattle.std.specs.Prelude.{◌≡◌, ℕ, List, [], ◌∷◌, codes}
use Rattle.std.specs.Str.Pattern.{FindsText}
use Rattle.std.specs.Str.Replace.{ReplacesMatches}

-- a word, with the master's address in the place of each `{master}` in it
abbrev pub IsPlaced : List ℕ → List ℕ → List ℕ → Type 0
IsPlaced master word placed =
    (n : ℕ) × ReplacesMatches FindsText (λ p q. q ≡ p) master n (codes "{master}") word placed

-- each word so, in their order
abbrev pub IsEachPlaced : List ℕ → List (List ℕ) → List (List ℕ) → Type 0
IsEachPlaced master [] [] = Unit {0}
IsEachPlaced master (word ∷ words) (placed ∷ all) =
    IsPlaced master word placed × IsEachPlaced master words all
IsEachPlaced master words all = ⊥

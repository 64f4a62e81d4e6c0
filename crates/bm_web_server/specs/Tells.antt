-- Frames that tell a text.
use Rattle.std.specs.Prelude.{◌≡◌, ℕ, List, [], ◌∷◌, ◌++◌, Option, Some, None, Result, Ok, Err}
use Rattle.http_body.specs.declared.frame.Frame.{Frame}
use Rattle.http_body.specs.Frame.{data_frame}

module _ {E : Type 0} where
  -- the frame is a piece with which the text begins, and P holds of its rest; of an error nothing
  -- is said
  abbrev pub Takes : Result (Frame (List ℕ)) E → List ℕ → (List ℕ → Type 0) → Type 0
  Takes (Ok frame) text P =
      (piece : List ℕ) × (rest : List ℕ) × (frame ≡ data_frame piece) × (text ≡ piece ++ rest)
      × P rest
  Takes (Err e) text P = Unit {0}

  -- the frames are parts of the text, one after another, and at the end nothing of it is left. In
  -- place of any of them an error may come
  abbrev pub Tells : List ℕ → List (Result (Frame (List ℕ)) E) → Option (Result (Frame (List ℕ)) E) → Type 0
  Tells text [] None = text ≡ []
  Tells text [] (Some x) = Takes x text (λ _. Unit {0})
  Tells text (x ∷ xs) last = Takes x text (λ rest. Tells rest xs last)

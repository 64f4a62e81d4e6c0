-- The states that the callers of a session ask for are met. Each event was taken where it came, and
-- the completed command has ended.
use Rattle.std.specs.Prelude.{◌≡◌, ◌∷◌, [], true, Some, refl}
use Rattle.bm_session.specs.declared.event.Event.TheVariants.{Up, Go, Down}
use Rattle.bm_session.specs.declared.results.Results.TheVariants.{Exception}
use Rattle.bm_session.specs.Trace.{was_taken, outcome}
use Rattle.callers.specs.SessionEvents.{update, complete}

repeated : was_taken (Up ∷ Go ∷ update 0 0 ∷ update 1 0 ∷ []) ≡ true
repeated = refl

begun_anew : was_taken (Up ∷ Go ∷ update 0 0 ∷ Down ∷ Up ∷ Go ∷ []) ≡ true
begun_anew = refl

completed : (was_taken (Up ∷ Go ∷ complete 0 0 ∷ []) ≡ true) × (outcome (Up ∷ Go ∷ complete 0 0 ∷ []) 0 ≡ Some Exception)
completed = (refl, refl)

given_up : was_taken (Up ∷ Go ∷ Go ∷ Down ∷ []) ≡ true
given_up = refl

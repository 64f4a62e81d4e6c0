-- What a service of logs answers.
use Rattle.std.specs.Prelude.{ℕ, List, Option, MatchOption}
use Rattle.bm_lane.specs.Ends.{Watched}
use Rattle.bm_http.specs.FirstLooks.{Refuses, Tells}
use Rattle.bm_http.specs.Replies.{Reply}
use Rattle.bm_http.specs.Requests.{Asked, Asks}

-- The reply to what is asked, of so many lanes. It is a refusal, made of nothing; or else it is
-- made of what the viewer of the log's lane had seen.
abbrev pub TellsOf : Asked → ℕ → Option Watched → Reply → Type 0
TellsOf a lanes seen reply = MatchOption seen (Refuses a reply) (λ w. Tells a lanes w reply)

-- the reply to a request with this method and target
abbrev pub Serves : ℕ → List ℕ → List ℕ → Option Watched → Reply → Type 0
Serves lanes method target seen reply =
    (a : Asked) × Asks method target a × TellsOf a lanes seen reply

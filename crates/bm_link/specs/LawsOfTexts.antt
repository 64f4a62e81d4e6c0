-- Laws of messages that carry short texts: each fits into a frame.
use Rattle.std.specs.Prelude.{◌≤◌, ℕ, List, [], ◌∷◌, length, Option, Some, None}
use Rattle.bm_link.specs.declared.asks.Ask.{Ask}
use Rattle.bm_link.specs.Accepting.{most_bytes}
use Rattle.bm_link.specs.Asks.{ask_bytes, texts_of}
use Rattle.bm_link.specs.Greeting.{auth_bytes}
use Rattle.bm_link.specs.Orders.{start_bytes, interrupt_bytes}
use Rattle.bm_link.specs.Texts.{AreShort}

-- an order, whatever its numbers are
abbrev pub OrdersFit : Type 0
OrdersFit =
    ((n k : ℕ) (argv : List (List ℕ)) → AreShort argv → length (start_bytes n k argv) ≤ most_bytes)
    × ((n k : ℕ) → length (interrupt_bytes n k) ≤ most_bytes)

-- a request that is no order
abbrev pub AsksFit : Type 0
AsksFit = (n : ℕ) (a : Ask) → AreShort (texts_of a) → length (ask_bytes n a) ≤ most_bytes

-- No session is named, or one by a text that a master keeps. Bounds of names stand twice. Laws take
-- a condition as a premise: this one, and `IsLogName` of bm_lines. A message is read by a test:
-- `is_session`, `is_log_name` of bm_msg. A test alone would stand in each law as an equation.
abbrev pub IsKeepable : Option (List ℕ) → Type 0
IsKeepable None = Unit {0}
IsKeepable (Some session) = length session ≤ 64

-- a login
abbrev pub LoginsFit : Type 0
LoginsFit =
    (name password : List ℕ) (session next : Option (List ℕ)) → AreShort (name ∷ password ∷ [])
    → IsKeepable session → IsKeepable next
    → length (auth_bytes name password session next) ≤ most_bytes

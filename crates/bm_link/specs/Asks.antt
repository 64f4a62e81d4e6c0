-- What a master asks of a worker besides its orders.
use Rattle.std.specs.Prelude.{◌≡◌, ◌≤◌, ◌<◌, ◌^◌, ◌⊎◌, ℕ, List, [], ◌∷◌, Option, Result, Ok, Err}
use Rattle.tungstenite.specs.Socket.{Socket}
use Rattle.bm_value.specs.Writing.{written}
use Rattle.bm_msg.specs.Meaning.{Asked, request, print, keepalive, get_worker_info, shutdown}
use Rattle.bm_msg.specs.Trees.{tree_of}
use Rattle.bm_link.specs.declared.asks.Ask.{Ask}
use Rattle.bm_link.specs.declared.asks.Ask.TheVariants as ask
use Rattle.bm_link.specs.declared.fault.LinkFault.{LinkFault}
use Rattle.bm_link.specs.declared.fault.LinkFault.TheVariants.{Full}
use Rattle.bm_link.specs.Carries.{Carried, has_asked}
use Rattle.bm_link.specs.Causes.{IsUnsent}
use Rattle.bm_link.specs.Sending.{SendsBytes}

abbrev pub asks_for : Ask → Asked
asks_for (ask.Print message) = print message
asks_for ask.Keepalive = keepalive
asks_for ask.GetWorkerInfo = get_worker_info
asks_for ask.Shutdown = shutdown

-- the texts that it carries
abbrev pub texts_of : Ask → List (List ℕ)
texts_of (ask.Print message) = message ∷ []
texts_of _ = []

-- the bytes of the request with number n
unfoldable pub ask_bytes : ℕ → Ask → List ℕ
ask_bytes n a = written (tree_of (request n (asks_for a)))

module _ {S : Type 0} where
  -- The request was sent under the next number. Or the numbers are used up, and nothing left. Or it
  -- was not sent, and its number is not given again.
  abbrev pub SendsAsk : (S → Option (List ℕ)) → Carried → Ask → Socket S
      → Result (Unit {0}) LinkFault → Socket S → Carried → Type 0
  SendsAsk contents carry a old (Ok _) new carry2 =
      (carry.next_ask < 2 ^ 63) × (carry2 ≡ has_asked carry)
      × SendsBytes contents (ask_bytes carry.next_ask a) old new
  SendsAsk contents carry a old (Err f) new carry2 =
      (carry2 ≡ has_asked carry) × (2 ^ 63 ≤ carry.next_ask → f ≡ Full)
      × (((f ≡ Full) × (2 ^ 63 ≤ carry.next_ask) × (new ≡ old))
      ⊎ ((carry.next_ask < 2 ^ 63) × IsUnsent contents (ask_bytes carry.next_ask a) old f new))

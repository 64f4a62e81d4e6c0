-- Why a link fails.
use Rattle.std.specs.Prelude.{◌≡◌, ◌⊎◌, ℕ, false, List, Option, Ok, Err}
use Rattle.tungstenite.specs.Connection.{can_write, write_step}
use Rattle.tungstenite.specs.Content.{binary}
use Rattle.tungstenite.specs.Socket.{Flushed, Socket, Reads, Writes, content_of}
use Rattle.tungstenite.specs.declared.error.Error.{Error}
use Rattle.tungstenite.specs.declared.message.Message.{Message}
use Rattle.tungstenite.specs.declared.message.Message.TheVariants as message
use Rattle.bm_link.specs.declared.fault.LinkFault.{LinkFault}
use Rattle.bm_link.specs.declared.fault.LinkFault.TheVariants.{Closed, Stream, BadMessage, Arena, Mem}
use Rattle.bm_link.specs.Faults.{fault_of, is_quiet}
use Rattle.bm_link.specs.Incoming.{IsEventOf}

-- a message that is passed over: a text, a ping or a pong
abbrev pub IsPassedOver : Message → Type 0
IsPassedOver (message.Binary bs) = ⊥
IsPassedOver (message.Close frame) = ⊥
IsPassedOver _ = Unit {0}

abbrev pub IsCloseFrame : Message → Type 0
IsCloseFrame (message.Close reason) = Unit {0}
IsCloseFrame _ = ⊥

-- the bytes give nothing of a kind, memory is wanting, or the arena refuses its reset
abbrev pub GivesNone : {X : Type 0} → (List ℕ → X → Type 0) → List ℕ → LinkFault → Type 0
GivesNone {X} Gives bytes f =
    ((f ≡ BadMessage) × ((x : X) → ¬ Gives bytes x)) ⊎ ((f ≡ Mem) ⊎ (f ≡ Arena))

-- the bytes are no event, or can't be read
abbrev pub GivesNoEvent : List ℕ → LinkFault → Type 0
GivesNoEvent bytes f = GivesNone IsEventOf bytes f

module _ {S : Type 0} where
  -- A message is not sent. Memory is wanting, or the connection takes no message more, and nothing
  -- left. Or the stream failed, and a beginning left of what waited and of this message's frame.
  abbrev pub IsUnsent : (S → Option (List ℕ)) → List ℕ → Socket S → LinkFault → Socket S → Type 0
  IsUnsent contents bytes old f new =
      ((new ≡ old) × ((f ≡ Mem) ⊎ ((f ≡ Closed) × (can_write old.conn.state ≡ false))))
      ⊎ ((f ≡ Stream) × Writes contents old new (write_step old.conn (binary bytes)))

  -- a close frame comes, and then leaves no more than waits, as the answer to it does
  abbrev pub IsClosing : (S → Option (List ℕ)) → (S → Option (List ℕ)) → Socket S → LinkFault
      → Socket S → Type 0
  IsClosing remaining contents old f new =
      (m : Message) × (mid : Socket S) × Reads remaining old mid (Ok m) × IsCloseFrame m
      × Flushed contents mid new × (f ≡ Closed)

  -- No event is read. The socket fails, and not only since nothing has come yet. Or a close frame
  -- comes, or a binary message that gives none.
  abbrev pub FailsToRead : (S → Option (List ℕ)) → (S → Option (List ℕ)) → Socket S → LinkFault
      → Socket S → Type 0
  FailsToRead remaining contents old f new =
      ((x : Error) × Reads remaining old new (Err x) × (f ≡ fault_of x) × (is_quiet x ≡ false))
      ⊎ (IsClosing remaining contents old f new
      ⊎ ((bs : List ℕ) × (m : Message) × Reads remaining old new (Ok m)
      × (content_of m ≡ binary bs) × GivesNoEvent bs f))

  -- A first message does not come, or is not what it is to be. The socket fails, or a close frame
  -- comes, or a message that is passed over elsewhere. Or a binary one comes, whose bytes fail so.
  abbrev pub FailsAtFirst : (List ℕ → LinkFault → Type 0) → (S → Option (List ℕ))
      → (S → Option (List ℕ)) → Socket S → LinkFault → Socket S → Type 0
  FailsAtFirst Fails remaining contents old f new =
      ((x : Error) × Reads remaining old new (Err x) × (f ≡ fault_of x))
      ⊎ (IsClosing remaining contents old f new
      ⊎ (((m : Message) × Reads remaining old new (Ok m) × IsPassedOver m × (f ≡ BadMessage))
      ⊎ ((bs : List ℕ) × (m : Message) × Reads remaining old new (Ok m)
      × (content_of m ≡ binary bs) × Fails bs f)))

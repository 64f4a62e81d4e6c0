-- What one read of a socket gives.
use Rattle.std.specs.Prelude.{◌≡◌, ℕ, true, false, List, Option, Result, Ok, Err}
use Rattle.tungstenite.specs.Content.{binary}
use Rattle.tungstenite.specs.Socket.{Flushed, Socket, Reads, content_of}
use Rattle.tungstenite.specs.declared.error.Error.{Error}
use Rattle.tungstenite.specs.declared.message.Message.{Message}
use Rattle.bm_link.specs.declared.fault.LinkFault.{LinkFault}
use Rattle.bm_link.specs.declared.socket.SocketRead.{SocketRead}
use Rattle.bm_link.specs.declared.socket.SocketRead.TheVariants as read
use Rattle.bm_link.specs.Causes.{IsCloseFrame, IsPassedOver}
use Rattle.bm_link.specs.Faults.{fault_of, is_quiet}
use Rattle.bm_link.specs.Parts.{ReadsClose, ReadsOther, ReadsNone}

-- no bytes are refused yet: what fails is the read of a first message itself
abbrev pub NoBytesFail : List ℕ → LinkFault → Type 0
NoBytesFail bytes f = ⊥

-- a failed read gives nothing, where nothing has come yet, or else a fault
abbrev pub GivesReadError : Error → Result SocketRead LinkFault → Type 0
GivesReadError x (Ok read.Nothing) = is_quiet x ≡ true
GivesReadError x (Ok _) = ⊥
GivesReadError x (Err f) = (f ≡ fault_of x) × (is_quiet x ≡ false)

module _ {S : Type 0} where
  -- what a message gives: after a close frame no more leaves than waits, as the answer to it does
  abbrev pub GivesRead : (S → Option (List ℕ)) → Message → Socket S → SocketRead → Socket S → Type 0
  GivesRead contents m mid (read.Binary bytes) new = (content_of m ≡ binary bytes) × (new ≡ mid)
  GivesRead contents m mid read.Other new = IsPassedOver m × (new ≡ mid)
  GivesRead contents m mid read.Nothing new = ⊥
  GivesRead contents m mid read.Closed new = IsCloseFrame m × Flushed contents mid new

  -- a binary message with these bytes was read
  abbrev pub ReadsBinary : (S → Option (List ℕ)) → Socket S → List ℕ → Socket S → Type 0
  ReadsBinary remaining old bytes new =
      (m : Message) × Reads remaining old new (Ok m) × (content_of m ≡ binary bytes)

  -- a close frame was read, and then left no more than waits, as the answer to it does
  abbrev pub ReadsEnd : (S → Option (List ℕ)) → (S → Option (List ℕ)) → Socket S → Socket S
      → Type 0
  ReadsEnd remaining contents old new =
      (mid : Socket S) × ReadsClose remaining old mid × Flushed contents mid new

  -- the socket failed, by the table of faults, and not only since nothing has come yet
  abbrev pub ReadsError : (S → Option (List ℕ)) → Socket S → LinkFault → Socket S → Type 0
  ReadsError remaining old f new =
      (x : Error) × Reads remaining old new (Err x) × (f ≡ fault_of x) × (is_quiet x ≡ false)

  -- what one read gives
  abbrev pub ReadsSocket : (S → Option (List ℕ)) → (S → Option (List ℕ)) → Socket S
      → Result SocketRead LinkFault → Socket S → Type 0
  ReadsSocket remaining contents old (Ok (read.Binary bytes)) new =
      ReadsBinary remaining old bytes new
  ReadsSocket remaining contents old (Ok read.Other) new = ReadsOther remaining old new
  ReadsSocket remaining contents old (Ok read.Nothing) new = ReadsNone remaining old new
  ReadsSocket remaining contents old (Ok read.Closed) new = ReadsEnd remaining contents old new
  ReadsSocket remaining contents old (Err f) new = ReadsError remaining old f new

-- What it is to send a message.
use Rattle.std.specs.Prelude.{◌≡◌, List, [], ℕ, Option}
use Rattle.tungstenite.specs.Connection.{write_step}
use Rattle.tungstenite.specs.Content.{Content, binary}
use Rattle.tungstenite.specs.Socket.{Socket, Writes}

module _ {S : Type 0} where
  -- a message was sent: its frame joined what waited, and all of that went to the stream
  abbrev pub SendsContent : (S → Option (List ℕ)) → Content → Socket S → Socket S → Type 0
  SendsContent contents content old new =
      Writes contents old new (write_step old.conn content) × (new.output ≡ [])

  -- that, of the binary message with these bytes
  abbrev pub SendsBytes : (S → Option (List ℕ)) → List ℕ → Socket S → Socket S → Type 0
  SendsBytes contents bytes old new = SendsContent contents (binary bytes) old new

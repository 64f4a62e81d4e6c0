-- What the callers of a link say.
use Rattle.std.specs.Prelude.{◌≡◌, ◌≤◌, ◌⊎◌, ℕ, pos, true, List, [], ◌∷◌, ◌++◌, length, map, codes, Option, Some, None, Result, Ok}
use mathlib.Core.List.{IsPrefix}
use Rattle.tungstenite.specs.Connection.{Effect, read_step, write_step}
use Rattle.tungstenite.specs.Content.{binary}
use Rattle.tungstenite.specs.Socket.{Flushed, Reads, Socket, Writes}
use Rattle.tungstenite.specs.declared.error.Error.{Error}
use Rattle.tungstenite.specs.declared.message.Message.{Message}
use Rattle.websocket.specs.declared.protocol.frame.codec.FrameStatus.TheVariants.{Complete}
use Rattle.bm_session.specs.declared.event.Event.{Event}
use Rattle.bm_session.specs.declared.event.Event.TheVariants.{Cut}
use Rattle.bm_session.specs.Trace.{Trace, commands, orders}
use Rattle.bm_work.specs.declared.sent.Sent.{Sent}
use Rattle.bm_link.specs.declared.attaching.Attached.TheVariants.{Resumed}
use Rattle.bm_link.specs.declared.credentials.Named.{Named}
use Rattle.bm_link.specs.Attaching.{login_bytes}
use Rattle.bm_link.specs.Orders.{start_bytes}
use Rattle.bm_link.specs.Parts.{Comes}
use Rattle.bm_link.specs.Sending.{SendsBytes}
use Rattle.bm_value.specs.Tree.{bool, dict, int, str}
use Rattle.bm_value.specs.View.{pairs_of}
use Rattle.bm_value.specs.Writing.{written}

-- the bytes of the exception with this text that answers request n
unfoldable pub exception_bytes : ℕ → List ℕ → List ℕ
exception_bytes n text =
    written (dict (pairs_of (
    record { key = str (codes "seq_number"); value = int (pos n) }
    ∷ record { key = str (codes "op"); value = str (codes "response") }
    ∷ record { key = str (codes "result"); value = str text }
    ∷ record { key = str (codes "is_exception"); value = bool true }
    ∷ []
    )))

-- the second trace is the first, maybe one event more, and then a Cut
abbrev pub EndsCut : Trace → Trace → Type 0
EndsCut t t2 = (took : Trace) × (length took ≤ 1) × (t2 ≡ (t ++ took) ++ Cut ∷ [])

module _ {S : Type 0} where
  -- the bytes that have come begin with a whole frame, which is a binary message
  abbrev pub BeginsWithBinary : Socket S → Type 0
  BeginsWithBinary s =
      (frame : ℕ × Effect) × (bytes : List ℕ) × (read_step s.conn s.input ≡ Ok (Complete frame))
      × (frame.1.message ≡ Some (binary bytes))

  -- nothing left, or the frame of this exception, or a beginning of it
  abbrev pub LeavesException : (S → Option (List ℕ)) → ℕ → List ℕ → Socket S → Socket S → Type 0
  LeavesException contents n text old new =
      (new ≡ old)
      ⊎ Writes contents old new (write_step old.conn (binary (exception_bytes n text)))

  -- the login that waits is told this text
  abbrev pub TellsLogin : (S → Option (List ℕ)) → Option Named → List ℕ → Socket S → Socket S
      → Type 0
  TellsLogin contents waits text old new =
      (login : Named) → waits ≡ Some login → LeavesException contents login.seq text old new

  -- whatever event comes, kept or in a message, the lane didn't take it
  abbrev pub TookNone : (S → Option (List ℕ)) → Option Event → Socket S → Trace → Trace → Type 0
  TookNone remaining kept old t t2 =
      (e : Event) → (mid : Socket S) → Comes remaining kept old e mid
      → ¬ IsPrefix (t ++ e ∷ []) t2

  -- The socket is as it was, or as one read left it. Behind a close frame some of what waited may
  -- have left too. Where an event is kept none is read.
  abbrev pub IsAsRead : (S → Option (List ℕ)) → (S → Option (List ℕ)) → Option Event → Socket S
      → Socket S → Type 0
  IsAsRead remaining contents (Some kept) old new = new ≡ old
  IsAsRead remaining contents None old new =
      (new ≡ old)
      ⊎ ((mid : Socket S) × (r : Result Message Error) × Reads remaining old mid r
      × ((new ≡ mid) ⊎ Flushed contents mid new))

  -- these messages were sent, one after the other
  abbrev pub SendsEach : (S → Option (List ℕ)) → Socket S → List (List ℕ) → Socket S → Type 0
  SendsEach contents old [] new = new ≡ old
  SendsEach contents old (bytes ∷ more) new =
      (mid : Socket S) × SendsBytes contents bytes old mid × SendsEach contents mid more new

  -- The answer that its session is resumed was sent for login n, and behind it orders by their
  -- bytes. The last one starts a command with these words, under the number that this trace gives.
  abbrev pub SendsAgain : (S → Option (List ℕ)) → Trace → List Sent → List (List ℕ) → ℕ → Socket S
      → Socket S → Type 0
  SendsAgain contents t before argv n old new =
      (o : Sent) × (o.seq ≡ orders t) × (o.bytes ≡ start_bytes (orders t) (commands t) argv)
      × SendsEach contents old (login_bytes n Resumed ∷ map (λ (s : Sent). s.bytes) (before ++ o ∷ []))
      new

-- What is sent beside messages: pings, and close frames.
use Rattle.std.specs.Prelude.{◌≡◌, ◌⊎◌, ℕ, false, List, [], Option, Some, Result, Ok, Err}
use Rattle.websocket.specs.Connection.{Effect}
use Rattle.websocket.specs.declared.error.Error.{Error as FrameError}
use Rattle.websocket.specs.declared.protocol.frame.coding.CloseCode.TheVariants.{Normal}
use Rattle.tungstenite.specs.Connection.{can_write, write_step}
use Rattle.tungstenite.specs.Content.{close, ping}
use Rattle.tungstenite.specs.Socket.{Socket, Writes}
use Rattle.bm_link.specs.declared.fault.LinkFault.{LinkFault}
use Rattle.bm_link.specs.declared.fault.LinkFault.TheVariants.{Closed, Mem, Stream}

module _ {S : Type 0} where
  -- A frame is not sent. Memory is wanting, or the connection takes no frame more, and nothing
  -- left. Or the stream failed, and a beginning left of what waited and of the frame.
  abbrev pub IsFrameUnsent : (S → Option (List ℕ)) → Result Effect FrameError → Socket S → LinkFault
      → Socket S → Type 0
  IsFrameUnsent contents step old f new =
      ((new ≡ old) × ((f ≡ Mem) ⊎ ((f ≡ Closed) × (can_write old.conn.state ≡ false))))
      ⊎ ((f ≡ Stream) × Writes contents old new step)

  -- the frame of this step was sent, behind what waited; or it was not
  abbrev pub SendsFrame : (S → Option (List ℕ)) → Result Effect FrameError → Socket S
      → Result (Unit {0}) LinkFault → Socket S → Type 0
  SendsFrame contents step old (Ok _) new = Writes contents old new step × (new.output ≡ [])
  SendsFrame contents step old (Err f) new = IsFrameUnsent contents step old f new

  -- a ping without a payload
  abbrev pub SendsPing : (S → Option (List ℕ)) → Socket S → Result (Unit {0}) LinkFault → Socket S
      → Type 0
  SendsPing contents old r new = SendsFrame contents (write_step old.conn (ping [])) old r new

  -- a close frame with the code of a normal end
  abbrev pub SendsClose : (S → Option (List ℕ)) → Socket S → Result (Unit {0}) LinkFault → Socket S
      → Type 0
  SendsClose contents old r new =
      SendsFrame contents (write_step old.conn (close (Some (Normal, [])))) old r new

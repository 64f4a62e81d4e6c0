-- Frames are read as the law over bytes has it, by the reader of WebSockets that both ends have.
use Rattle.std.specs.Prelude.{◌≡◌, ◌≢◌, ◌<◌, ◌^◌, ℕ, not, List, [], ◌++◌, length, None, Some, Ok}
use Rattle.websocket.specs.Connection.{Connection, Effect, is_server, read_step}
use Rattle.websocket.specs.Content.{binary, FitsLimit}
use Rattle.websocket.specs.declared.protocol.config.Role.{Role}
use Rattle.websocket.specs.declared.protocol.frame.codec.FrameStatus.TheVariants.{Partial, Complete}
use Rattle.websocket.specs.declared.protocol.state.WebSocketState.TheVariants.{Active}
use Rattle.bm_wired.specs.Service.{IsFrameOf}

-- the end that reads what this role sends, between two messages, and its limits let this one pass
pub record Awaits (role : Role) (message : List ℕ) (conn : Connection) : Type 0 where
  pub active : conn.state ≡ Active
  pub between : conn.fragments ≡ None
  pub other : is_server conn.role ≡ not (is_server role)
  pub fits_message : FitsLimit conn.config.max_message_size message
  pub fits_frame : FitsLimit conn.config.max_frame_size message

-- each message has a frame
abbrev pub MessagesHaveFrames : Type 0
MessagesHaveFrames =
    (role : Role) (m : List ℕ) → length m < 2 ^ 63 → (frame : List ℕ) × IsFrameOf role m frame

-- one read gives the message of the frame at the front, and takes that frame alone
abbrev pub FramesAreRead : Type 0
FramesAreRead =
    (role : Role) (m frame rest : List ℕ) (conn : Connection)
    → IsFrameOf role m frame → Awaits role m conn
    → (effect : Effect) × (read_step conn (frame ++ rest) ≡ Ok (Complete (length frame, effect)))
    × (effect.message ≡ Some (binary m))

-- where a frame is cut, a read of what is left of it gives nothing, and waits
abbrev pub PartsAreNotRead : Type 0
PartsAreNotRead =
    (role : Role) (m part more : List ℕ) (conn : Connection)
    → IsFrameOf role m (part ++ more) → more ≢ [] → Awaits role m conn
    → (needed : ℕ) × (read_step conn part ≡ Ok (Partial needed))

-- no two frames begin the same bytes
abbrev pub FramesAreApart : Type 0
FramesAreApart =
    (role : Role) (m m2 frame frame2 rest rest2 : List ℕ)
    → IsFrameOf role m frame → IsFrameOf role m2 frame2 → frame ++ rest ≡ frame2 ++ rest2
    → (m ≡ m2) × (rest ≡ rest2)

-- What a new link is.
use Rattle.std.specs.Prelude.{◌≡◌, ℕ, false, List, Some, None}
use Rattle.tungstenite.specs.declared.protocol.WebSocketConfig.{WebSocketConfig}
use Rattle.websocket.specs.declared.protocol.config.WebSocketConfig.{WebSocketConfig as Limits}
use Rattle.tungstenite.specs.Heads.{Connected, Serves}
use Rattle.tungstenite.specs.Socket.{Socket}
use Rattle.bm_link.specs.declared.ending.Stage.TheVariants as stage
use Rattle.bm_link.specs.Link.{LinkState}

-- no message and no frame is longer than this, and no frame of a worker comes unmasked
abbrev pub most_bytes : ℕ
most_bytes = 1048576

-- and no more than this waits to be sent
abbrev pub most_waiting : ℕ
most_waiting = 2097152

abbrev pub Limit : Limits → Type 0
Limit c =
    (c.max_message_size ≡ Some most_bytes) × (c.max_frame_size ≡ Some most_bytes)
    × (c.accept_unmasked_frames ≡ false)

-- the settings that a socket is given: those limits, and a bound of what waits
abbrev pub IsLimited : WebSocketConfig → Type 0
IsLimited c =
    Limit (record {
      max_message_size = c.max_message_size;
      max_frame_size = c.max_frame_size;
      accept_unmasked_frames = c.accept_unmasked_frames;
    })
    × (c.max_write_buffer_size ≡ most_waiting)

-- a link on which no login was read: a handshake was taken, and the socket has read and sent
-- nothing since
abbrev pub IsAccepted : {S : Type 0} → LinkState S → Type 0
IsAccepted l =
    (l.stage ≡ stage.Open) × (l.login ≡ None) × (l.kept ≡ None) × (l.refused ≡ None)
    × Limit l.socket.conn.config
    × Serves l.socket

-- a worker's socket on which no login was sent: a handshake was answered, and nothing was sent
-- since
abbrev pub IsConnected : {S : Type 0} → Socket S → Type 0
IsConnected s = Limit s.conn.config × ((key : List ℕ) × Connected key s)

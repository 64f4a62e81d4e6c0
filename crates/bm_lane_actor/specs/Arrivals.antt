-- What a wait of a lane's actor came to.
use Rattle.std.specs.Prelude.{Bool, ◌||◌, ◌==◌, List}
use Rattle.std.specs.List.{list_any}
use Rattle.mio.specs.Event.{event_token}
use Rattle.mio.specs.declared.event.event.Event.{Event}

-- it is that of a connection, not of the mailbox
abbrev pub is_of_connection : Event → Bool
is_of_connection event = (event_token event).0 == 0

-- Something had come on a connection already, or the system refused the wait, so that it may have,
-- or an event says so.
abbrev pub comes_by : Bool → Bool → List Event → Bool
comes_by has_come refused events = has_come || refused || list_any is_of_connection events

-- What comes of a connection that has not logged in.
use Rattle.std.specs.Prelude.{ℕ, Bool, true, false, ◌==◌, nat_le, List, Option, Some, None}
use Rattle.std.specs.List.{list_any}
use Rattle.std.specs.Duration.{as_nanos}
use Rattle.std.specs.declared.io.ErrorKind.{ErrorKind}
use Rattle.std.specs.declared.io.ErrorKind.TheVariants as kind
use Rattle.std.specs.declared.time.Duration.{Duration}
use Rattle.mio.specs.declared.event.event.Event.{Event}

-- all ten seconds that a login may take are over, as far as the time is known
abbrev pub is_late : Option Duration → Bool
is_late (Some took) = nat_le 10_000_000_000 (as_nanos took)
is_late None = false

-- an event tells of a connection
abbrev pub is_of_listener : Event → Bool
is_of_listener e = e.inner.data == 0

abbrev pub has_connections : List Event → Bool
has_connections events = list_any is_of_listener events

-- no connection is left that waits to be accepted
abbrev pub is_none_left : ErrorKind → Bool
is_none_left kind.WouldBlock = true
is_none_left why = false

-- for how many nanoseconds it waits for an event at the most: 20 ms while it can't accept
abbrev pub longest_wait : Bool → Option ℕ
longest_wait true = Some 20_000_000
longest_wait false = None

-- How long a connection is silent, and what is done about that.
use Rattle.std.specs.Prelude.{ℕ, ◌-◌, ◌/◌, Bool, true, false, Option, Some, None, option_map, Result, Ok, Err}
use Rattle.std.specs.IoError.{error_kind}
use Rattle.std.specs.Time.{instant_nanos}
use Rattle.std.specs.declared.io.Error.{Error}
use Rattle.std.specs.declared.io.ErrorKind.{ErrorKind}
use Rattle.std.specs.declared.io.ErrorKind.TheVariants as kind
use Rattle.std.specs.declared.time.Instant.{Instant}
use Rattle.bm_outbox.specs.Keepalives.{after_silence}
use Rattle.bm_outbox.specs.declared.keepalive.Keepalive.{Keepalive}
use Rattle.bm_outbox.specs.declared.keepalive.Keepalive.TheVariants as keep

-- whole seconds; none where the clock couldn't tell one of the moments
abbrev pub seconds_between : Option Instant → Option Instant → ℕ
seconds_between (Some begun) (Some now) = (instant_nanos now - instant_nanos begun) / 1_000_000_000
seconds_between (Some begun) None = 0
seconds_between None now = 0

-- what is done now, by when the silence began and when the other end was pinged, where it was
abbrev pub kept_alive : Option Instant → Option (Option Instant) → Option Instant → Keepalive
kept_alive begun pinged now = after_silence (seconds_between begun now)
    (option_map (λ moment. seconds_between moment now) pinged)

-- it counts as pinged from the moment of the ping on
abbrev pub pinged_after : Keepalive → Option Instant → Option (Option Instant) → Option (Option Instant)
pinged_after keep.Ping now pinged = Some now
pinged_after keep.Wait now pinged = pinged
pinged_after keep.GiveUp now pinged = pinged

-- a look that failed so found no byte, and the stream hasn't ended
abbrev pub is_of_silence : ErrorKind → Bool
is_of_silence kind.Interrupted = true
is_of_silence kind.WouldBlock = true
is_of_silence kind.TimedOut = true
is_of_silence _ = false

abbrev pub shows_silence : Result ℕ Error → Bool
shows_silence (Ok count) = false
shows_silence (Err error) = is_of_silence (error_kind error)

-- from now to a deadline; none once it has passed, and where the clock fails
abbrev pub nanos_left : Result Instant Error → Instant → ℕ
nanos_left (Ok now) deadline = instant_nanos deadline - instant_nanos now
nanos_left (Err error) deadline = 0

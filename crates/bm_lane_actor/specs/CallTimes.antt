-- How long the calls of a worker's connection may take, and have taken. All times are nanoseconds,
-- and None is what a clock shows that failed.
use Rattle.std.specs.Prelude.{ℕ, ◌+◌, ◌-◌, ◌*◌, ◌^◌, min, nat_lt, nat_le, Bool, true, false, if◌then◌else◌, Option, Some, None, option_map}
use Rattle.std.specs.Time.{instant_nanos}
use Rattle.std.specs.declared.time.Instant.{Instant}
use Rattle.std.specs.Duration.{max_nanos}

-- When the time for its login is over. When the turn's first read was made. How long its writes
-- have taken since its last read.
pub record TimesView : Type 0 where
  pub login_ends : Option ℕ
  pub turn_began : Option ℕ
  pub spent : ℕ

-- what the clock showed
abbrev pub clock_at : Option Instant → Option ℕ
clock_at now = option_map instant_nanos now

-- that many milliseconds
abbrev pub millis : ℕ → ℕ
millis n = n * 1_000_000

-- ten seconds later, where the clock goes so far
abbrev pub login_end : Option ℕ → Option ℕ
login_end None = None
login_end (Some now) =
    if nat_lt (now + millis 10_000) (2 ^ 63 * 1_000_000_000) then Some (now + millis 10_000)
    else None

-- a connection that has just come
abbrev pub started : Option ℕ → TimesView
started now = record { login_ends = login_end now; turn_began = None; spent = 0 }

-- the time for the login is over, or no clock tells
abbrev pub is_past : Option ℕ → Option ℕ → Bool
is_past (Some now) (Some until) = nat_le until now
is_past now until = true

abbrev pub is_late : Option ℕ → TimesView → Bool
is_late now t = is_past now t.login_ends

-- the turn has read for 50 milliseconds, or no clock tells; its first read is made at any time
abbrev pub turn_over : Option ℕ → Option ℕ → Bool
turn_over now None = false
turn_over None (Some began) = true
turn_over (Some now) (Some began) = nat_le (millis 50) (now - began)

abbrev pub is_turn_over : Option ℕ → TimesView → Bool
is_turn_over now t = turn_over now t.turn_began

-- the first read of a turn begins it
abbrev pub began_at : Option ℕ → Option ℕ → Option ℕ
began_at now None = now
began_at now (Some began) = Some began

abbrev pub turn_after : Option ℕ → TimesView → TimesView
turn_after now t = record t { turn_began = began_at now t.turn_began }

-- whether no read is made: before the login its time counts, and then that of the turn
abbrev pub is_read_over : Bool → Option ℕ → TimesView → Bool
is_read_over true now t = is_turn_over now t
is_read_over false now t = is_late now t

-- when the turn began, after that question
abbrev pub turn_at : Bool → Option ℕ → Option ℕ → Option ℕ
turn_at true now turn = began_at now turn
turn_at false now turn = turn

abbrev pub times_at : Bool → Option ℕ → TimesView → TimesView
times_at is_logged_in now t = record t { turn_began = turn_at is_logged_in now t.turn_began }

-- how long the writes have taken after another one; without a clock as long as they may
abbrev pub spent_after : Option ℕ → Option ℕ → ℕ → ℕ
spent_after (Some began) (Some ended) spent = min (spent + (ended - began)) max_nanos
spent_after began ended spent = millis 5_000

-- how long they may take: less once the master ends
abbrev pub write_ms : Bool → ℕ
write_ms true = 100
write_ms false = 5_000

abbrev pub is_spent : Bool → TimesView → Bool
is_spent is_over t = nat_le (millis (write_ms is_over)) t.spent

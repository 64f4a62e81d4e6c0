-- How long a lane that was cut waits for its worker.
use Rattle.std.specs.Prelude.{ℕ, ◌+◌, Bool, true, false, ◌||◌, nat_lt, nat_le, if◌then◌else◌, Option, Some, None}
use Rattle.std.specs.Option.{option_map_or}

-- How many ticks a worker may take to come back. How many have passed since the cut, if there was
-- one: as many as it may take, where more have. And whether nobody is awaited.
pub record TimerView : Type 0 where
  pub limit : ℕ
  pub cut : Option ℕ
  pub dismissed : Bool

-- a lane that is not cut, and whose worker is awaited after a cut
abbrev pub kept : ℕ → TimerView
kept limit = record { limit = limit; cut = None; dismissed = false }

-- a connection was attached, or the lane was given up
abbrev pub begun : TimerView → TimerView
begun t = kept t.limit

-- the connection was cut
abbrev pub cut_off : TimerView → TimerView
cut_off t =
    record {
      limit = t.limit;
      cut = Some (option_map_or (λ ticks. ticks) t.cut 0);
      dismissed = t.dismissed;
    }

-- the worker was told to shut down, or its process ended
abbrev pub dismissed : TimerView → TimerView
dismissed t = record { limit = t.limit; cut = t.cut; dismissed = true }

-- one tick more has passed
abbrev pub one_more : ℕ → ℕ → Option ℕ
one_more limit ticks = Some (if nat_lt ticks limit then ticks + 1 else ticks)

-- a tick passed: it counts where the lane is cut
abbrev pub passed : TimerView → TimerView
passed t =
    record {
      limit = t.limit;
      cut = option_map_or (one_more t.limit) t.cut None;
      dismissed = t.dismissed;
    }

-- the lane is to be given up: it is cut, and nobody is awaited or the worker's ticks have passed
abbrev pub is_over : TimerView → Bool
is_over t = option_map_or (λ ticks. t.dismissed || nat_le t.limit ticks) t.cut false

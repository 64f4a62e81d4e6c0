-- When it is told that something waits.
use Rattle.std.specs.Prelude.{ℕ, ◌+◌, ◌-◌, ◌^◌, Bool, true, false, nat_le, ◌&&◌, ◌||◌, not, min, Option, Some, None, is_some, if◌then◌else◌}

-- since when something waits, and whether that was told
pub record Notice : Type 0 where
  pub since : Option ℕ
  pub is_told : Bool

-- nothing waits
abbrev pub no_notice : Notice
no_notice = record { since = None; is_told = false }

-- the begin of a wait that goes on
abbrev pub begun : Option ℕ → ℕ → ℕ
begun None now = now
begun (Some since) now = since

-- a second has passed that wasn't told
abbrev pub is_due : Notice → ℕ → Bool → Bool
is_due n now false = false
is_due n now true = not n.is_told && nat_le (min (begun n.since now + 1000) (2 ^ 64 - 1)) now

abbrev pub notice_after : Notice → ℕ → Bool → Notice
notice_after n now false = no_notice
notice_after n now true =
    record { since = Some (begun n.since now); is_told = n.is_told || is_due n now true }

-- something waits that wasn't told
abbrev pub is_pending : Notice → Bool
is_pending n = is_some n.since && not n.is_told

-- How many connections may wait for their login at once, and which of them makes room for another.
use Rattle.std.specs.Prelude.{ℕ, ◌+◌, ◌-◌, Bool, true, false, nat_lt, if◌then◌else◌, Option, Some, None}
use Rattle.bm_lane_actor.specs.declared.login_limit.LoginEntry.{LoginEntry}
use Rattle.bm_lane_actor.specs.declared.login_limit.LoginEntry.TheVariants as entry

-- the connections that have a place, and those that were put out and have not ended yet
pub record CountView : Type 0 where
  pub inside : ℕ
  pub leaving : ℕ

abbrev pub most_pending_logins : ℕ
most_pending_logins = 256

-- how one more connection comes in
abbrev pub entry_of : CountView → LoginEntry
entry_of c =
    if nat_lt c.inside most_pending_logins then entry.Room
    else (if nat_lt c.leaving most_pending_logins then entry.InPlace else entry.Crowded)

-- the one whose place it takes is then on its way out
abbrev pub counted : LoginEntry → CountView → CountView
counted entry.Room c = record c { inside = c.inside + 1 }
counted entry.InPlace c = record c { leaving = c.leaving + 1 }
counted entry.Crowded c = c

abbrev pub entered : CountView → CountView
entered c = counted (entry_of c) c

-- after one that was put out or not has logged in or ended
abbrev pub left : Bool → CountView → CountView
left true c = record c { leaving = c.leaving - 1 }
left false c = record c { inside = c.inside - 1 }

-- The connection that spoke longest ago, of those that were looked at: its place, and the number of
-- what it said last.
pub record SilenceView : Type 0 where
  pub place : Option ℕ
  pub heard : ℕ

-- of two that spoke at the same time it is the first
abbrev pub longer_than : Option ℕ → ℕ → ℕ → SilenceView → SilenceView
longer_than None place heard s = record { place = Some place; heard = heard }
longer_than (Some other) place heard s =
    if nat_lt heard s.heard then record { place = Some place; heard = heard } else s

abbrev pub longer : ℕ → ℕ → SilenceView → SilenceView
longer place heard s = longer_than s.place place heard s

-- When a silent worker is asked for a sign of life, and when it is taken for dead.
use Rattle.std.specs.Prelude.{ℕ, ◌-◌, ◌==◌, Bool, true, false, ◌&&◌, ◌||◌, not, nat_le, max, min, if◌then◌else◌, Option, Some, None}
use Rattle.std.specs.Option.{is_some, option_map_or}
use Rattle.bm_lane_actor.specs.declared.peer_timer.PeerAction.{PeerAction}
use Rattle.bm_lane_actor.specs.declared.peer_timer.PeerAction.TheVariants as action

-- The count of what came from the worker, and when it was first seen. When the worker was asked
-- since, and since when another connection asks for its lane. Times are in milliseconds.
pub record PeerView : Type 0 where
  pub count : ℕ
  pub since : ℕ
  pub asked : Option ℕ
  pub wanted : Option ℕ

abbrev pub ask_after : ℕ
ask_after = 15000

-- from when it was asked
abbrev pub dead_after : ℕ
dead_after = 45000

abbrev pub answer_within : ℕ
answer_within = 1500

abbrev pub started : ℕ → ℕ → PeerView
started count now = record { count = count; since = now; asked = None; wanted = None }

-- another count says that the worker lives
abbrev pub heard_at : ℕ → ℕ → PeerView → PeerView
heard_at count now s = if s.count == count then s else started count now

-- so many milliseconds have passed since then
abbrev pub has_passed : ℕ → ℕ → Option ℕ → Bool
has_passed most now since = option_map_or (λ at. nat_le most (now - at)) since false

-- the worker doesn't answer though it was asked, or another connection asks for its lane
abbrev pub is_unanswered : ℕ → PeerView → Bool
is_unanswered now s = has_passed answer_within now s.wanted || has_passed dead_after now s.asked

-- it is asked once for each silence
abbrev pub action_at : ℕ → PeerView → PeerAction
action_at now s =
    if is_unanswered now s then action.GiveUp
    else (if not (is_some s.asked) && nat_le ask_after (now - s.since) then action.Ask
    else action.Nothing)

abbrev pub after_action : ℕ → PeerAction → PeerView → PeerView
after_action now action.Ask s = record s { asked = Some now }
after_action now _ s = s

-- since then, where this is the first
abbrev pub first_at : ℕ → Option ℕ → Option ℕ
first_at now since = Some (option_map_or (λ at. at) since now)

-- another connection asks for the lane: what was asked first counts
abbrev pub wanted_at : ℕ → PeerView → PeerView
wanted_at now s = record s { asked = first_at now s.asked; wanted = first_at now s.wanted }

-- how much of so many milliseconds is left that have begun then
abbrev pub remaining : ℕ → ℕ → ℕ → ℕ
remaining most since now = most - (now - since)

-- how long it may be silent until something is to be done
abbrev pub silent_for : ℕ → PeerView → ℕ
silent_for now s = option_map_or (λ at. remaining dead_after at now) s.asked (remaining ask_after s.since now)

-- how long nothing is to be done, if nothing comes from the worker
abbrev pub rest_at : ℕ → PeerView → ℕ
rest_at now s =
    option_map_or (λ since. min (silent_for now s) (remaining answer_within since now)) s.wanted
    (silent_for now s)

-- the peer of a link that waits for a sign of life may leave
abbrev pub most_glance : Bool → ℕ
most_glance true = 100
most_glance false = 60000

-- how long an actor waits at its mailbox at most: while up, its worker needs nothing for so long,
-- and another link may wait
abbrev pub glance_at : Bool → ℕ → Bool → ℕ
glance_at true rest is_wanted = max 1 (min rest (most_glance is_wanted))
glance_at false rest is_wanted = most_glance is_wanted

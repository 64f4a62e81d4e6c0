-- A lane and its worker over connections that are cut at any moment. Sessions are resumed or given
-- up. A call that fails on the way is one that succeeds, and then a cut which loses what it wrote.
use Rattle.std.specs.Prelude.{◌≡◌, ◌⊎◌, ℕ, Bool, true, false, List, [], ◌∷◌, ◌++◌, length, take, drop, Option, None, Ok}
use mathlib.Core.List.{IsPrefix}
use Rattle.bm_lane.specs.Ends.{Heard}
use Rattle.bm_lane.specs.Hearing.{Hears}
use Rattle.bm_lines.specs.Names.{stdio}
use Rattle.bm_link.specs.Attaching.{cleared, taken_up}
use Rattle.bm_link.specs.Carries.{carried_with, new_carried}
use Rattle.bm_session.specs.Trace.{is_cut, log, refusal, visible}
use Rattle.bm_session.specs.declared.event.Event.{Event}
use Rattle.bm_session.specs.declared.event.Event.TheVariants.{Up, Cut, Down}
use Rattle.bm_session.specs.declared.reply.Reply.{Reply}
use Rattle.bm_work.specs.Core.{new_core, unanswered_requests}
use Rattle.bm_work.specs.Stream.{Report, said}
use Rattle.bm_work.specs.declared.sent.Sent.{Sent}
use Rattle.bm_replay.specs.Schedule.{Act, is_schedule, scene_after, opening, reported, was_started}
use Rattle.bm_wired.specs.Wired.{Wired, Move, Tell, Listen, Moves, begun_wired, new_lane, bytes_in}

-- The worker has no link. Or the answer to its login is under way: its session is resumed, or is
-- new. Or it heard that answer.
pub data Link : Type 0 where
  Apart : Link
  Greeted : (resumed : Bool) → Link
  Stands : Link

-- Both ends, with what is under way between them, and the worker's link. What the worker still has
-- to send again, oldest first. Whether what is written now comes to be under way: behind a cut it
-- is lost. Whether the worker's core is that of the lane's session. What was ever reported.
pub record Joined : Type 0 where
  pub wired : Wired
  pub link : Link
  pub backlog : List Sent
  pub whole : Bool
  pub heard : Bool
  pub told : List Report

-- no worker was there yet
abbrev pub apart : ℕ → ℕ → Bool → Joined
apart id capacity resumable = let w = begun_wired id capacity (new_carried resumable) None in
    record {
      wired = record w { lane = new_lane id capacity };
      link = Apart;
      backlog = [];
      whole = false;
      heard = false;
      told = [];
    }

pub data Step : Type 0 where
  -- a move as over one connection
  Make : (m : Move) → Step
  -- the oldest request that waits is sent again
  Resend : Step
  -- the connection is cut: so many messages each way are still read
  Break : (up down : ℕ) → Step
  -- the worker's link ends; the lane's does, or its session is given up
  Leave : Step
  Lose : (e : Event) → Step
  -- a login of the worker takes the lane up; the worker hears how
  Meet : (resumed : Bool) (named : Option (List ℕ)) → Step
  Begin : Step

-- The worker hears over a link by which its session stands. It tells nothing new before all that
-- waits was sent again.
abbrev pub IsFree : Joined → Move → Type 0
IsFree x Tell = (x.link ≡ Stands) × (x.backlog ≡ [])
IsFree x Listen = x.link ≡ Stands
IsFree x m = Unit {0}

-- what is under way one way after a move: nothing more, where the connection is cut
abbrev pub passed : Bool → List (List ℕ) → List (List ℕ) → List (List ℕ)
passed true old new = new
passed false old new = take (length old) new

-- the worker hears that its session is resumed, or that it is new
abbrev pub begun_by : Bool → Joined → Joined
begun_by true x = record x { link = Stands; backlog = unanswered_requests x.wired.core }
begun_by false x =
    record x {
      wired = record x.wired { core = new_core; outbox = [] };
      link = Stands;
      backlog = [];
      heard = true;
    }

-- the connection is cut
abbrev pub broken : Joined → Wired → Joined
broken x w = record x { wired = w; whole = false }

abbrev pub Steps : Joined → Step → Joined → Type 0
Steps x (Make m) y =
    (w : Wired) × IsFree x m × Moves x.wired m w
    × (y ≡ record x {
      wired = record w {
        up = passed x.whole x.wired.up w.up;
        down = passed x.whole x.wired.down w.down;
      };
      told = x.told ++ drop (length x.wired.core.reports) w.core.reports;
    })
Steps x Resend y =
    (s : Sent) × (rest : List Sent) × (x.link ≡ Stands) × (x.backlog ≡ s ∷ rest)
    × (y ≡ record x {
      wired = record x.wired { up = passed x.whole x.wired.up (x.wired.up ++ s.bytes ∷ []) };
      backlog = rest;
    })
Steps x (Break up down) y =
    y ≡ broken x (record x.wired { up = take up x.wired.up; down = take down x.wired.down })
Steps x Leave y =
    (z : Joined) × (z ≡ broken x (record x.wired { down = [] }))
    × (y ≡ record z { link = Apart; backlog = [] })
Steps x (Lose e) y =
    (r : Reply) × (lane : Heard) × ((e ≡ Cut) ⊎ (e ≡ Down)) × Hears x.wired.lane e (Ok r) lane
    × (y ≡ broken x (record x.wired { lane = lane; up = [] }))
-- A session that is resumed is that of the worker's core (`unheard_sessions_end`), or that core is
-- still new.
Steps x (Meet resumed named) y =
    (x.link ≡ Apart) × (refusal (cleared resumed x.wired.lane).trace Up ≡ None)
    × (resumed ≡ true → (is_cut x.wired.lane.trace ≡ true)
    × ((x.heard ≡ true) ⊎ (x.wired.core ≡ new_core)))
    × (y ≡ record x {
      wired = record x.wired {
        lane = taken_up resumed x.wired.lane;
        carried = carried_with resumed x.wired.carried named;
        up = [];
        down = bytes_in (carried_with resumed x.wired.carried named).orders;
      };
      link = Greeted resumed;
      whole = true;
      heard = resumed;
    })
Steps x Begin y =
    (resumed : Bool) × (x.link ≡ Greeted resumed) × (y ≡ begun_by resumed x)

-- each step follows the one before
abbrev pub Goes : Joined → List Step → Joined → Type 0
Goes x [] y = y ≡ x
Goes x (s ∷ ss) y = (mid : Joined) × Steps x s mid × Goes mid ss y

-- ---- the laws

-- What a schedule reaches, and what is reported in it. It delivers a request again where the lane
-- takes it again, so no more is asked of it than of one connection.
pub record IsRejoined (c : ℕ) (acts : List Act) (x : Joined) : Type 0 where
  pub scheduled : is_schedule c acts ≡ true
  pub trace : (scene_after (opening c) acts).lane.trace ≡ x.wired.lane.trace
  pub shown : (scene_after (opening c) acts).lane.shown ≡ x.wired.shown
  pub reported : reported acts ≡ x.told

abbrev pub CutsAreSchedules : Type 0
CutsAreSchedules =
    (id capacity : ℕ) (resumable : Bool) (ss : List Step) (x : Joined)
    → Goes (apart id capacity resumable) ss x
    → (c : ℕ) × (acts : List Act) × IsRejoined c acts x

-- So each log is a beginning of what was reported, over all sessions.
abbrev pub CutsAreLogged : Type 0
CutsAreLogged =
    (id capacity : ℕ) (resumable : Bool) (ss : List Step) (x : Joined) (k : ℕ)
    → Goes (apart id capacity resumable) ss x
    → IsPrefix (log x.wired.lane.trace k stdio) (said x.told k)

-- Take a command of the lane's session, which is that of the worker's core. It is all of that, and
-- viewers see it, where nothing is unanswered and all is shown.
abbrev pub AllIsLogged : Type 0
AllIsLogged =
    (id capacity : ℕ) (resumable : Bool) (ss : List Step) (x : Joined) (k : ℕ)
    → Goes (apart id capacity resumable) ss x
    → x.heard ≡ true → was_started x.wired.lane.trace k ≡ true
    → unanswered_requests x.wired.core ≡ [] → x.wired.shown ≡ length x.wired.lane.put
    → log (visible x.wired.lane.trace x.wired.shown) k stdio ≡ said x.told k

-- What follows for a silent worker and for a link that waits, whatever comes, at whatever times.
use Rattle.std.specs.Prelude.{◌≡◌, ℕ, ◌+◌, ◌≤◌, ◌<◌, ◌==◌, nat_le, nat_lt, Bool, true, false, ◌&&◌, ◌||◌, not, if◌then◌else◌, List, [], ◌∷◌, count_by, Some, None, is_some}
use Rattle.std.specs.List.{list_any}
use Rattle.bm_lane_actor.specs.declared.lane_policy.LaneInput.{LaneInput}
use Rattle.bm_lane_actor.specs.declared.lane_policy.LaneInput.TheVariants.{Look, Login, Attached, Ended, PutOff}
use Rattle.bm_lane_actor.specs.declared.lane_policy.LinkAct.{LinkAct}
use Rattle.bm_lane_actor.specs.declared.lane_policy.LinkAct.TheVariants as link
use Rattle.bm_lane_actor.specs.declared.lane_policy.SecondAct.{SecondAct}
use Rattle.bm_lane_actor.specs.declared.lane_policy.SecondAct.TheVariants as second
use Rattle.bm_lane_actor.specs.declared.lane_policy.LaneActs.{LaneActs}
use Rattle.bm_lane_actor.specs.PeerTimer.{PeerView}
use Rattle.bm_lane_actor.specs.LanePolicy.{PolicyView, acts_of, is_waiting, policy_after}

-- an input, and when it comes
pub record Arrival : Type 0 where
  pub input : LaneInput
  pub now : ℕ

-- an input that comes to a policy
pub record Moment : Type 0 where
  pub before : PolicyView
  pub input : LaneInput
  pub now : ℕ

-- the policy after these inputs, and the moments in which they come
abbrev pub after : PolicyView → List Arrival → PolicyView
after p [] = p
after p (i ∷ is) = after (policy_after i.input i.now p) is

abbrev pub moment : PolicyView → Arrival → Moment
moment p i = record { before = p; input = i.input; now = i.now }

abbrev pub moments : PolicyView → List Arrival → List Moment
moments p [] = []
moments p (i ∷ is) = moment p i ∷ moments (policy_after i.input i.now p) is

-- what is then to be done
abbrev pub acts : Moment → LaneActs
acts m = acts_of m.input m.now m.before

abbrev pub one_if : Bool → ℕ
one_if b = if b then 1 else 0

abbrev pub is_login : LaneInput → Bool
is_login (Login up own first_own) = true
is_login i = false

abbrev pub logs_in : Arrival → Bool
logs_in i = is_login i.input

-- the link that has logged in waits in the place of the first
abbrev pub takes_place : SecondAct → Bool
takes_place second.Replace = true
takes_place second.Displace = true
takes_place s = false

-- a link that has logged in waits from now on
abbrev pub comes_to_wait : Moment → Bool
comes_to_wait m = is_login m.input && (is_waiting (acts m).second || takes_place (acts m).second)

-- A link waits no more. A login takes its place, or what another input says is done with it.
abbrev pub waits_no_more : Moment → Bool
waits_no_more m =
    if is_login m.input then takes_place (acts m).second else not (is_waiting (acts m).second)

-- each link that waits is answered, displaced or let go once, or still waits
abbrev pub WaitingAnsweredOnce : Type 0
WaitingAnsweredOnce =
    (p : PolicyView) (is : List Arrival)
    → count_by comes_to_wait (moments p is) + one_if p.waits
    ≡ count_by waits_no_more (moments p is) + one_if (after p is).waits

-- once the master ends no link waits, and nothing is done with one, until another logs in
abbrev pub NoneWaits : Type 0
NoneWaits =
    (p : PolicyView) (now : ℕ) (is : List Arrival) → list_any logs_in is ≡ false
    → ((after (policy_after PutOff now p) is).waits ≡ false)
    × (list_any waits_no_more (moments (policy_after PutOff now p) is) ≡ false)

abbrev pub is_ping : LinkAct → Bool
is_ping link.Ping = true
is_ping l = false

abbrev pub is_fail : LinkAct → Bool
is_fail link.Fail = true
is_fail l = false

-- the worker is asked for a sign of life
abbrev pub asks : Moment → Bool
asks m = is_ping (acts m).link

-- the link fails of a worker that is taken for dead
abbrev pub fails : Moment → Bool
fails m = is_fail (acts m).link

-- another count came, or another link
abbrev pub is_sign : LaneInput → PolicyView → Bool
is_sign (Look up came read left) p = up && not (p.peer.count == came)
is_sign (Attached came) p = true
is_sign (Ended up came) p = not (p.peer.count == came)
is_sign i p = false

abbrev pub shows_life : Moment → Bool
shows_life m = is_sign m.input m.before

-- a look at a link that is up and was read until nothing came
abbrev pub is_read_out : LaneInput → Bool
is_read_out (Look up came read left) = up && read
is_read_out i = false

-- neither its silence nor a login or its end has asked it
abbrev pub IsUnasked : PeerView → Type 0
IsUnasked s = (s.asked ≡ None) × (s.wanted ≡ None)

abbrev pub asks_before : ℕ → Moment → Bool
asks_before t m = asks m && nat_lt m.now t

abbrev pub is_from : ℕ → Moment → Bool
is_from t m = nat_le t m.now

-- a worker that isn't asked for a sign of life isn't taken for dead
abbrev pub UnaskedNotFailed : Type 0
UnaskedNotFailed =
    (p : PolicyView) (is : List Arrival) → IsUnasked p.peer → list_any asks (moments p is) ≡ false
    → list_any fails (moments p is) ≡ false

-- nor is one that isn't asked since it gave one
abbrev pub HeardNotFailed : Type 0
HeardNotFailed =
    (p : PolicyView) (i : Arrival) (is : List Arrival) → shows_life (moment p i) ≡ true
    → list_any asks (moments p (i ∷ is)) ≡ false → list_any fails (moments p (i ∷ is)) ≡ false

-- one that isn't asked before this time isn't taken for dead within 1,500 ms from it
abbrev pub AskedHaveTime : Type 0
AskedHaveTime =
    (p : PolicyView) (t : ℕ) (is : List Arrival) → IsUnasked p.peer
    → list_any (asks_before t) (moments p is) ≡ false
    → list_any (is_from (t + 1500)) (moments p is) ≡ false
    → list_any fails (moments p is) ≡ false

-- only a look fails a link, and only one that was read until nothing came
abbrev pub OnlyReadFail : Type 0
OnlyReadFail = (m : Moment) → fails m ≡ true → is_read_out m.input ≡ true

-- a look at a link that is up, by which nothing came
abbrev pub quiet_look : Bool → Bool → ℕ → PolicyView → Moment
quiet_look read left now p =
    record { before = p; input = Look true p.peer.count read left; now = now }

-- the worker may be asked though it was asked already
abbrev pub may_ask : LaneInput → Bool
may_ask (Login up own first_own) = true
may_ask (Ended up came) = true
may_ask i = false

abbrev pub may_ask_again : Moment → Bool
may_ask_again m = may_ask m.input || shows_life m

-- a worker that was asked, and gives no sign of life, is taken for dead 45,000 ms behind that
abbrev pub AskedGivenUp : Type 0
AskedGivenUp =
    (p : PolicyView) (is : List Arrival) (t now : ℕ) (left : Bool) → p.peer.asked ≡ Some t
    → list_any shows_life (moments p is) ≡ false → t + 45000 ≤ now
    → fails (quiet_look true left now (after p is)) ≡ true

-- so is one that a login or its end has asked, 1,500 ms behind that, whoever asks after it
abbrev pub WantedGivenUp : Type 0
WantedGivenUp =
    (p : PolicyView) (is : List Arrival) (t now : ℕ) (left : Bool) → p.peer.wanted ≡ Some t
    → list_any shows_life (moments p is) ≡ false → t + 1500 ≤ now
    → fails (quiet_look true left now (after p is)) ≡ true

-- but none is sooner
abbrev pub AskedNotSooner : Type 0
AskedNotSooner =
    (m : Moment) (t : ℕ) → m.before.peer.asked ≡ Some t → m.before.peer.wanted ≡ None
    → m.now < t + 45000 → fails m ≡ false

abbrev pub WantedNotSooner : Type 0
WantedNotSooner =
    (m : Moment) (s t : ℕ) → m.before.peer.asked ≡ Some s → m.before.peer.wanted ≡ Some t
    → m.now < s + 45000 → m.now < t + 1500 → fails m ≡ false

-- a worker is asked once until it gives a sign of life, or a login or its end asks
abbrev pub AskedOnce : Type 0
AskedOnce =
    (p : PolicyView) (is : List Arrival) → list_any may_ask_again (moments p is) ≡ false
    → count_by asks (moments p is) + one_if (is_some p.peer.asked) ≤ 1

-- and once more at most for each of those
abbrev pub AskedOnceEach : Type 0
AskedOnceEach =
    (p : PolicyView) (is : List Arrival)
    → count_by asks (moments p is) + one_if (is_some p.peer.asked)
    ≤ count_by may_ask_again (moments p is) + one_if (is_some (after p is).peer.asked)

-- once a worker was silent for 15,000 ms and not asked, a look asks it
abbrev pub SilentAsked : Type 0
SilentAsked =
    (p : PolicyView) (is : List Arrival) (now : ℕ) (read left : Bool) → IsUnasked p.peer
    → list_any shows_life (moments p is) ≡ false → list_any asks (moments p is) ≡ false
    → p.peer.since + 15000 ≤ now → asks (quiet_look read left now (after p is)) ≡ true

-- and none before that
abbrev pub NotAskedSooner : Type 0
NotAskedSooner =
    (m : Moment) → may_ask m.input ≡ false → m.now < m.before.peer.since + 15000 → asks m ≡ false

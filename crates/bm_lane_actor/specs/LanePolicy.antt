-- What a lane's actor does about its worker's connection, and about a link that waits for the lane.
use Rattle.std.specs.Prelude.{ℕ, Bool, true, false, ◌&&◌, ◌||◌, not, if◌then◌else◌}
use Rattle.std.specs.Option.{is_some}
use Rattle.bm_operator.specs.declared.reasons.LossCause.{LossCause}
use Rattle.bm_operator.specs.declared.reasons.LossCause.TheVariants as cause
use Rattle.bm_lane_actor.specs.declared.peer_timer.PeerAction.{PeerAction}
use Rattle.bm_lane_actor.specs.declared.peer_timer.PeerAction.TheVariants as action
use Rattle.bm_lane_actor.specs.declared.login_fates.LoginFate.{LoginFate}
use Rattle.bm_lane_actor.specs.declared.login_fates.LoginFate.TheVariants as fate
use Rattle.bm_lane_actor.specs.declared.login_fates.WaitingFate.{WaitingFate}
use Rattle.bm_lane_actor.specs.declared.login_fates.WaitingFate.TheVariants as waiting
use Rattle.bm_lane_actor.specs.declared.lane_policy.LaneInput.{LaneInput}
use Rattle.bm_lane_actor.specs.declared.lane_policy.LaneInput.TheVariants.{Look, Login, Attached, ShutDown, Ended, PutOff}
use Rattle.bm_lane_actor.specs.declared.lane_policy.LinkAct.{LinkAct}
use Rattle.bm_lane_actor.specs.declared.lane_policy.LinkAct.TheVariants as link
use Rattle.bm_lane_actor.specs.declared.lane_policy.SecondAct.{SecondAct}
use Rattle.bm_lane_actor.specs.declared.lane_policy.SecondAct.TheVariants as second
use Rattle.bm_lane_actor.specs.declared.lane_policy.LaneActs.{LaneActs}
use Rattle.bm_lane_actor.specs.LoginFates.{login_fate, waiting_fate}
use Rattle.bm_lane_actor.specs.PeerTimer.{PeerView, action_at, after_action, heard_at, started, wanted_at}

-- How long the worker has been silent, and whether another link waits for its sign of life. Why a
-- cut lane would be given up. Times are in milliseconds.
pub record PolicyView : Type 0 where
  pub peer : PeerView
  pub waits : Bool
  pub why : LossCause

-- a lane that never had a link
abbrev pub begun : PolicyView
begun = record { peer = started 0 0; waits = false; why = cause.Expired }

abbrev pub does : LinkAct → SecondAct → LaneActs
does l s = record { link = l; second = s }

-- the link of a worker that is taken for dead is read once more before it fails
abbrev pub link_act : PeerAction → Bool → LinkAct
link_act action.Nothing read = link.Nothing
link_act action.Ask read = link.Ping
link_act action.GiveUp read = if read then link.Fail else link.Read

abbrev pub is_nothing : LinkAct → Bool
is_nothing link.Nothing = true
is_nothing l = false

abbrev pub is_read : LinkAct → Bool
is_read link.Read = true
is_read l = false

abbrev pub is_waiting : SecondAct → Bool
is_waiting second.Wait = true
is_waiting s = false

abbrev pub second_of : WaitingFate → SecondAct
second_of waiting.Admit = second.Admit
second_of waiting.Wait = second.Wait
second_of waiting.Drop = second.Drop

-- What becomes of the link that waits. It does while the lane's worker was asked for a sign of
-- life, and neither gave one nor is taken for dead.
abbrev pub second_at : Bool → LinkAct → Bool → PolicyView → SecondAct
second_at up l left p =
    if not p.waits || is_read l
    then second.Wait
    else second_of (waiting_fate (up && (is_nothing l && is_some p.peer.wanted)) left)

-- what is to be done about the worker, and the timer behind that
abbrev pub peer_act : Bool → ℕ → Bool → ℕ → PolicyView → LinkAct
peer_act up came read now p =
    if up then link_act (action_at now (heard_at came now p.peer)) read else link.Nothing

abbrev pub peer_after : Bool → ℕ → ℕ → PolicyView → PolicyView
peer_after up came now p =
    record p {
      peer =
          if up
          then after_action now (action_at now (heard_at came now p.peer)) (heard_at came now p.peer)
          else p.peer;
    }

-- after a look
abbrev pub look_acts : Bool → ℕ → Bool → Bool → ℕ → PolicyView → LaneActs
look_acts up came read left now p =
    does (peer_act up came read now p)
    (second_at up (peer_act up came read now p) left (peer_after up came now p))

abbrev pub look_after : Bool → ℕ → Bool → Bool → ℕ → PolicyView → PolicyView
look_after up came read left now p =
    record (peer_after up came now p) {
      waits =
          p.waits
          && is_waiting
          (second_at up (peer_act up came read now p) left (peer_after up came now p));
    }

-- a worker whose lane is up has little time for a sign of life, from now on
abbrev pub asked : Bool → ℕ → PolicyView → PolicyView
asked up now p = record p { peer = if up then wanted_at now p.peer else p.peer }

-- after a login: the first link that waits is told that the lane is up; the lane's own worker takes
-- its place
abbrev pub fate_acts : Bool → Bool → LoginFate → LaneActs
fate_acts up first_own fate.Admit = does link.Nothing second.Admit
fate_acts up first_own fate.Wait = does (if up then link.Ping else link.Nothing) second.Wait
fate_acts up first_own fate.TakePlace =
    does link.Nothing (if first_own then second.Replace else second.Displace)

abbrev pub fate_after : Bool → ℕ → LoginFate → PolicyView → PolicyView
fate_after up now fate.Wait p = asked up now (record p { waits = true })
fate_after up now f p = p

abbrev pub login_acts : Bool → Bool → Bool → PolicyView → LaneActs
login_acts up own first_own p = fate_acts up first_own (login_fate up p.waits own)

abbrev pub login_after : Bool → Bool → ℕ → PolicyView → PolicyView
login_after up own now p = fate_after up now (login_fate up p.waits own) p

abbrev pub put_off_acts : PolicyView → LaneActs
put_off_acts p = does link.Nothing (if p.waits then second.PutOff else second.Wait)

-- where the lane stands after an input
abbrev pub policy_after : LaneInput → ℕ → PolicyView → PolicyView
policy_after (Look up came read left) now p = look_after up came read left now p
policy_after (Login up own first_own) now p = login_after up own now p
policy_after (Attached came) now p = record p { peer = started came now; why = cause.Expired }
policy_after ShutDown now p = record p { why = cause.Dismissed }
policy_after (Ended up came) now p =
    asked up now (record p { peer = heard_at came now p.peer; why = cause.Ended })
policy_after PutOff now p = record p { waits = false }

-- what is then to be done
abbrev pub acts_of : LaneInput → ℕ → PolicyView → LaneActs
acts_of (Look up came read left) now p = look_acts up came read left now p
acts_of (Login up own first_own) now p = login_acts up own first_own p
acts_of (Attached came) now p = does link.Nothing second.Wait
acts_of ShutDown now p = does link.Nothing second.Wait
acts_of (Ended up came) now p = does (if up then link.Ping else link.Nothing) second.Wait
acts_of PutOff now p = put_off_acts p

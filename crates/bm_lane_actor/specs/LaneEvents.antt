-- What happens to a lane, and what follows from it.
use Rattle.std.specs.Prelude.{ℕ, Bool, true, false, if◌then◌else◌, List, Option, Some, None}
use Rattle.std.specs.declared.net.socket_addr.SocketAddr.{SocketAddr}
use Rattle.bm_session.specs.Trace.{Trace, is_up, is_cut}
use Rattle.bm_session.specs.declared.refusal.Refusal.TheVariants.{Mem, Full}
use Rattle.bm_lane.specs.declared.refusals.HearRefusal.TheVariants.{Session}
use Rattle.bm_latent.specs.declared.worker_event.WorkerEvent.{WorkerEvent}
use Rattle.bm_latent.specs.declared.worker_event.WorkerEvent.TheVariants as worker
use Rattle.bm_link.specs.declared.fault.LinkFault.{LinkFault}
use Rattle.bm_link.specs.declared.fault.LinkFault.TheVariants as fault
use Rattle.bm_operator.specs.Remark.{filled, logged_in, login_refused, resumed, shut_down, worker_cut, worker_lost}
use Rattle.bm_operator.specs.Told.{Told}
use Rattle.bm_operator.specs.declared.reasons.LossCause.{LossCause}
use Rattle.bm_operator.specs.declared.reasons.LossCause.TheVariants as loss
use Rattle.bm_lane_actor.specs.declared.connection_state.ConnectionState.{ConnectionState}
use Rattle.bm_lane_actor.specs.declared.connection_state.ConnectionState.TheVariants.{Up, Cut, Down}
use Rattle.bm_lane_actor.specs.declared.lane_event.LaneEvent.{LaneEvent}
use Rattle.bm_lane_actor.specs.declared.lane_event.LaneEvent.TheVariants as event
use Rattle.bm_lane_actor.specs.LoginRefusals.{refusal_of}

abbrev pub connection_of : Trace → ConnectionState
connection_of t = if is_up t then Up else (if is_cut t then Cut else Down)

-- What is told where no login came. A lane that was up and is cut now was cut; one that was up or
-- cut and is neither now was lost.
abbrev pub event_after : ConnectionState → ConnectionState → LossCause → Option LaneEvent
event_after Up Cut cause = Some (event.Cut cause)
event_after Up Down cause = Some (event.Lost cause)
event_after Cut Down cause = Some (event.Lost cause)
event_after _ _ cause = None

-- What is told of a link that has taken up a lane which stood so before. A cut session is lost
-- where it doesn't go on; then comes the login.
abbrev pub greeting : ConnectionState → Bool → Option LaneEvent × LaneEvent
greeting before true = (None, event.Resumed)
greeting Cut false = (Some (event.Lost loss.Replaced), event.Attached)
greeting Up false = (None, event.Attached)
greeting Down false = (None, event.Attached)

-- a session stands after a login that failed: the lane heard something by it, and isn't down
abbrev pub stands : Bool → ConnectionState → Bool
stands true Up = true
stands true Cut = true
stands _ _ = false

-- why a lane whose link failed so is cut or given up
abbrev pub loss_of : LinkFault → LossCause
loss_of fault.Stream = loss.Stream
loss_of fault.BadMessage = loss.BadMessage
loss_of fault.BadLogin = loss.BadMessage
loss_of fault.Full = loss.Full
loss_of (fault.Lane (Session Full)) = loss.Full
loss_of (fault.Lane (Session Mem)) = loss.Memory
loss_of fault.Mem = loss.Memory
loss_of fault.Arena = loss.Memory
loss_of _ = loss.Closed

-- why a lane is cut or given up by an order that its link answered so
abbrev pub order_loss : Option LinkFault → LossCause
order_loss (Some f) = loss_of f
order_loss None = loss.Stream

-- What is told of a link by which a login failed. Where a session stands after it, that is what a
-- link that takes the lane up is greeted with, and then how that ended. Else the login was
-- declined, and a session that was cut before may be lost by it. Its own is lost for the fault.
-- Any other one is lost since a session was to begin.
abbrev pub failed_login : ConnectionState → ConnectionState → Bool → Bool → LinkFault → SocketAddr
    → Option LaneEvent × LaneEvent × Option LaneEvent
failed_login before after own heard f from = if stands heard after
    then ((greeting before own).0, (greeting before own).1, event_after Up after (loss_of f))
    else (event_after before after (if own then loss_of f else loss.Replaced), event.Declined f from, None)

-- its worker is awaited to resume the session
abbrev pub is_awaited : ConnectionState → Bool
is_awaited Cut = true
is_awaited _ = false

-- what has happened to the lane's worker, if anything has
abbrev pub event_of : LaneEvent → Option WorkerEvent
event_of event.Attached = Some worker.Attached
event_of event.Resumed = Some worker.Attached
event_of (event.Cut c) = Some worker.Cut
event_of (event.Lost c) = Some worker.Lost
event_of (event.Declined f from) = None
event_of event.Filled = None

-- a login was declined
abbrev pub declines : LaneEvent → Bool
declines (event.Declined f from) = true
declines event.Attached = false
declines event.Resumed = false
declines (event.Cut c) = false
declines (event.Lost c) = false
declines event.Filled = false

-- the lane takes nothing more: that was refused, or a session or a login ended by it
abbrev pub fills : LaneEvent → Bool
fills (event.Lost loss.Full) = true
fills (event.Declined fault.Full from) = true
fills event.Filled = true
fills e = false

-- What an operator is told of it, by whether the worker was told to shut down, and its name. Of
-- such a worker it isn't told that its connection is closed, but that it is gone.
abbrev pub event_told : Bool → List ℕ → LaneEvent → Option Told
event_told dismissed name event.Attached = Some (logged_in name)
event_told dismissed name event.Resumed = Some (resumed name)
event_told true name (event.Cut loss.Closed) = None
event_told dismissed name (event.Cut c) = Some (worker_cut name c)
event_told true name (event.Lost loss.Closed) = Some (shut_down name)
event_told true name (event.Lost loss.Dismissed) = Some (shut_down name)
event_told true name (event.Lost loss.Ended) = Some (shut_down name)
event_told dismissed name (event.Lost c) = Some (worker_lost name c)
event_told dismissed name (event.Declined f from) = Some (login_refused name from (refusal_of f))
event_told dismissed name event.Filled = Some (filled name)

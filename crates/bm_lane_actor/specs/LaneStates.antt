-- What the state of a lane's actor is, and what each of its calls does to the lane. That goes by
-- what the lane's link and the lane themselves do.
use Rattle.std.specs.Prelude.{◌≡◌, ◌⊎◌, ℕ, ◌==◌, Bool, true, false, not, ◌||◌, if◌then◌else◌, List, length}
use Rattle.std.specs.Prelude.{Option, Some, None, Result, Ok, Err}
use Rattle.bm_session.specs.declared.refusal.Refusal.TheVariants.{Mem, Full, TooManyOpen}
use Rattle.bm_session.specs.Trace.{is_up, is_cut, commands, orders}
use Rattle.bm_session.specs.declared.event.Event.{Event}
use Rattle.bm_session.specs.declared.event.Event.TheVariants.{Down}
use Rattle.bm_session.specs.declared.reply.Reply.{Reply}
use Rattle.bm_lane.specs.Ends.{Heard}
use Rattle.bm_lane.specs.Hearing.{Hears}
use Rattle.bm_lane.specs.declared.refusals.HearRefusal.{HearRefusal}
use Rattle.bm_lane.specs.declared.refusals.HearRefusal.TheVariants.{Session, Busy}
use Rattle.bm_link.specs.declared.asks.Ask.TheVariants.{Shutdown}
use Rattle.bm_link.specs.declared.attaching.Attached.{Attached}
use Rattle.bm_link.specs.declared.fault.LinkFault.{LinkFault}
use Rattle.bm_link.specs.declared.fault.LinkFault.TheVariants.{Lane}
use Rattle.bm_link.specs.declared.turn.Turn.{Turn}
use Rattle.bm_link.specs.declared.turn.Turn.TheVariants.{Quiet}
use Rattle.bm_link.specs.Asking.{AsksFor}
use Rattle.bm_link.specs.Attaching.{TakesUpFor}
use Rattle.bm_link.specs.Carries.{Carried}
use Rattle.bm_link.specs.Control.{ClosesFor, PingsFor}
use Rattle.bm_link.specs.Link.{LinkState, Turned}
use Rattle.bm_link.specs.Orders.{Starts as LinkStarts, Interrupts as LinkInterrupts}
use Rattle.bm_lane_actor.specs.ResumeTimer.{TimerView, begun, cut_off, dismissed, is_over, passed}
use Rattle.bm_lane_actor.specs.declared.lane_state.Awaited.{Awaited}
use Rattle.bm_lane_actor.specs.declared.lane_state.Awaited.TheVariants as awaited
use Rattle.bm_lane_actor.specs.declared.order_outcome.OrderOutcome.{OrderOutcome}
use Rattle.bm_lane_actor.specs.declared.order_outcome.OrderOutcome.TheVariants as outcome
use Rattle.bm_lane_actor.specs.declared.connection_state.ConnectionState.{ConnectionState}
use Rattle.bm_lane_actor.specs.declared.connection_state.ConnectionState.TheVariants as connection
use Rattle.bm_lane_actor.specs.LaneEvents.{connection_of}

-- a lane's reader's end, its resume state, the link by which it is up, and how long a cut one
-- waits for its worker
pub record LaneView (S : Type 0) : Type 0 where
  pub lane : Heard
  pub resume_state : Carried
  pub link : Option (LinkState S)
  pub timer : TimerView

-- what is waited for: a lane that is up waits for messages where its worker has something to say
abbrev pub awaited_of : Bool → ConnectionState → Awaited
awaited_of true connection.Up = awaited.Message
awaited_of false connection.Up = awaited.Glance
awaited_of lively connection.Cut = awaited.Tick
awaited_of lively connection.Down = awaited.Request

-- ticks are counted from a cut on, until the session was given up
abbrev pub timer_in : ConnectionState → TimerView → TimerView
timer_in connection.Up t = t
timer_in connection.Cut t = cut_off t
timer_in connection.Down t = begun t

abbrev pub counting : Heard → TimerView → TimerView
counting lane t = timer_in (connection_of lane.trace) t

-- a login came to a lane that had n events: the count begins anew where the lane had more of them
abbrev pub renewed : ℕ → Heard → TimerView → TimerView
renewed n lane t = if is_up lane.trace || not (n == length lane.trace) then begun t else t

-- What a build is told of a start: the command's number, or to try it later, or that it is
-- refused. It is tried later where the lane is busy or has no room for one more open command. So
-- it is where the link failed and the lane took no order. Want of memory is told as that. A full
-- lane refuses it with that reason.
abbrev pub start_outcome : Bool → Result ℕ LinkFault → OrderOutcome
start_outcome taken (Ok k) = outcome.Started k
start_outcome taken (Err (Lane Busy)) = outcome.Later
start_outcome taken (Err (Lane (Session TooManyOpen))) = outcome.Later
start_outcome taken (Err (Lane (Session Mem))) = outcome.Short
start_outcome taken (Err (Lane (Session Full))) = outcome.Full
start_outcome taken (Err (Lane why)) = outcome.Refused
start_outcome taken (Err f) = if taken then outcome.Refused else outcome.Later

-- of an interruption: an order that the lane took is sent again where its session is resumed
abbrev pub interrupt_outcome : Bool → Result (Unit {0}) LinkFault → OrderOutcome
interrupt_outcome taken (Ok _) = outcome.Interrupted
interrupt_outcome taken (Err (Lane Busy)) = outcome.Later
interrupt_outcome taken (Err (Lane (Session Mem))) = outcome.Later
interrupt_outcome taken (Err (Lane why)) = outcome.Refused
interrupt_outcome taken (Err f) = if taken then outcome.Interrupted else outcome.Later

-- where the lane has no link: to try it later while it is cut, and else that it is refused
abbrev pub unlinked_outcome : Heard → OrderOutcome
unlinked_outcome lane = if is_cut lane.trace then outcome.Later else outcome.Refused

-- it may come of an order that the lane was not given
abbrev pub is_untried : OrderOutcome → Bool
is_untried outcome.TooLong = true
is_untried outcome.Cancelled = true
is_untried outcome.Short = true
is_untried came = false

abbrev pub is_busy_refusal : HearRefusal → Bool
is_busy_refusal Busy = true
is_busy_refusal (Session why) = false

-- the lane was busy
abbrev pub is_busy : Result Reply (Event × HearRefusal) → Bool
is_busy (Ok reply) = false
is_busy (Err back) = is_busy_refusal back.1

module _ {S : Type 0} where
  abbrev pub with_timer : LaneView S → TimerView → LaneView S
  with_timer d t = record d { timer = t }

  -- a link is kept while its lane is up
  abbrev pub kept : Heard → Option (LinkState S) → Option (LinkState S)
  kept lane link = if is_up lane.trace then link else None

  -- a link of the state did something to the lane, and this is left of it
  abbrev pub Leaves : LaneView S → TimerView → LinkState S → LaneView S → Type 0
  Leaves old term link new =
      (new.link ≡ kept new.lane (Some link)) × (new.timer ≡ counting new.lane term)

  -- a link takes up a lane that has none, and stays its link while the lane is up
  abbrev pub TakesUp : (S → Option (List ℕ)) → LinkState S → Heard → Carried → TimerView
      → Result Attached LinkFault → Option (LinkState S)
      → Heard → Carried → TimerView → Type 0
  TakesUp contents link lane resume_state term r second lane2 resume_state2 term2 =
      (link2 : LinkState S) × TakesUpFor contents link.login link lane resume_state r link2 lane2 resume_state2
      × (second ≡ kept lane2 (Some link2))
      × (term2 ≡ counting lane2 (renewed (length lane.trace) lane2 term))

  -- a link comes to a lane that is up, which stays as it was; it is told so, and has this fault
  abbrev pub Declines : (S → Option (List ℕ)) → LinkState S → Heard → Carried → LinkFault → Type 0
  Declines contents link lane resume_state f =
      (link2 : LinkState S) × TakesUpFor contents link.login link lane resume_state (Err f) link2 lane resume_state

  -- A link comes to the lane. Where another one has it, that goes on unharmed, and the link has the
  -- fault by which it was declined.
  abbrev pub Attaches : (S → Option (List ℕ)) → LinkState S → Option (LinkState S) → LaneView S
      → Result Attached LinkFault → LaneView S → Type 0
  Attaches contents link (Some first) old r new =
      (new ≡ old) × ((f : LinkFault) × (r ≡ Err f) × Declines contents link old.lane old.resume_state f)
  Attaches contents link None old r new =
      TakesUp contents link old.lane old.resume_state old.timer r new.link new.lane new.resume_state new.timer

  -- a turn of the link
  abbrev pub Turns : (S → Option (List ℕ)) → (S → Option (List ℕ)) → Option (LinkState S) → LaneView S
      → Result Turn LinkFault → LaneView S → Type 0
  Turns remaining contents None old r new = (r ≡ Ok Quiet) × (new ≡ old)
  Turns remaining contents (Some link) old r new =
      (link2 : LinkState S)
      × Turned remaining contents link.stage link old.lane old.resume_state r link2 new.lane new.resume_state
      × Leaves old old.timer link2 new

  -- a start: without a link nothing is sent
  abbrev pub Starts : (S → Option (List ℕ)) → List (List ℕ) → Option (LinkState S) → LaneView S → OrderOutcome
      → LaneView S → Type 0
  Starts contents argv None old t new = (t ≡ unlinked_outcome old.lane) × (new ≡ old)
  Starts contents argv (Some link) old t new =
      (r : Result ℕ LinkFault) × (link2 : LinkState S)
      × LinkStarts contents argv link.stage link old.lane old.resume_state r link2 new.lane new.resume_state
      × Leaves old old.timer link2 new
      × (t ≡ start_outcome (not (commands old.lane.trace == commands new.lane.trace)) r)

  -- An order to start a command. It isn't tried where its words are too long, its build is
  -- cancelled, or memory is wanting: the lane stays as it was. Or this is what came of it.
  abbrev pub StartsOrder : (S → Option (List ℕ)) → List (List ℕ) → LaneView S → OrderOutcome → LaneView S → Type 0
  StartsOrder contents argv old t new =
      ((is_untried t ≡ true) × (new ≡ old)) ⊎ Starts contents argv old.link old t new

  -- an interruption of command k: without a link nothing is sent
  abbrev pub Interrupts : (S → Option (List ℕ)) → ℕ → Option (LinkState S) → LaneView S → OrderOutcome → LaneView S
      → Type 0
  Interrupts contents k None old t new = (t ≡ unlinked_outcome old.lane) × (new ≡ old)
  Interrupts contents k (Some link) old t new =
      (r : Result (Unit {0}) LinkFault) × (link2 : LinkState S)
      × LinkInterrupts contents k link.stage link old.lane old.resume_state r link2 new.lane new.resume_state
      × Leaves old old.timer link2 new
      × (t ≡ interrupt_outcome (not (orders old.lane.trace == orders new.lane.trace)) r)

  -- the worker is asked to shut down, and is not awaited after a cut
  abbrev pub ShutsDown : (S → Option (List ℕ)) → Option (LinkState S) → LaneView S → LaneView S → Type 0
  ShutsDown contents None old new = new ≡ with_timer old (dismissed old.timer)
  ShutsDown contents (Some link) old new =
      (r : Result (Unit {0}) LinkFault) × (link2 : LinkState S)
      × AsksFor contents Shutdown link.stage link old.resume_state r link2 new.resume_state
      × (new.link ≡ Some link2) × (new.lane ≡ old.lane) × (new.timer ≡ dismissed old.timer)

  -- the worker is asked for a sign of life, which is no event of the lane
  abbrev pub Pings : (S → Option (List ℕ)) → Option (LinkState S) → LaneView S → LaneView S → Type 0
  Pings contents None old new = new ≡ old
  Pings contents (Some link) old new =
      (r : Result (Unit {0}) LinkFault) × (link2 : LinkState S)
      × PingsFor contents link.stage link old.resume_state r link2
      × (new ≡ record old { link = Some link2 })

  -- the worker is told that its connection ends; the lane is still to be given up
  abbrev pub Closes : (S → Option (List ℕ)) → Option (LinkState S) → LaneView S → LaneView S → Type 0
  Closes contents None old new = new ≡ old
  Closes contents (Some link) old new =
      (r : Result (Unit {0}) LinkFault) × (link2 : LinkState S)
      × ClosesFor contents link.stage link r link2 × (new ≡ record old { link = Some link2 })

  -- the lane hears a Down: the session is given up, if there was one; or nothing changed, since the
  -- lane is busy
  abbrev pub GivesUp : LaneView S → Bool → LaneView S → Type 0
  GivesUp old done new =
      (r : Result Reply (Event × HearRefusal)) × Hears old.lane Down r new.lane
      × (done ≡ not (is_busy r)) × (new.resume_state ≡ old.resume_state)
      × (new.link ≡ (if done then kept new.lane old.link else old.link))
      × (new.timer ≡ (if done then counting new.lane old.timer else old.timer))

  -- the session is given up where its worker is awaited no more
  abbrev pub ExpiresWhere : Bool → LaneView S → LaneView S → Type 0
  ExpiresWhere true old new = (done : Bool) × GivesUp old done new
  ExpiresWhere false old new = new ≡ old

  abbrev pub Expires : LaneView S → LaneView S → Type 0
  Expires old new = ExpiresWhere (is_over old.timer) old new

  -- that, after one tick more
  abbrev pub Ticks : LaneView S → LaneView S → Type 0
  Ticks old new = Expires (with_timer old (passed old.timer)) new

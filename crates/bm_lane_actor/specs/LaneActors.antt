-- What a lane's actor is, and what it does by each thing that comes. Its policy hears each of them.
use Rattle.std.specs.Prelude.{◌≡◌, ◌⊎◌, ℕ, ◌==◌, ◌*◌, Bool, true, false, not, ◌||◌, if◌then◌else◌, List, [], ◌∷◌, ◌++◌, length, filter}
use Rattle.std.specs.Prelude.{Option, Some, None, is_some, Result, Ok, Err}
use Rattle.std.specs.Duration.{as_nanos}
use Rattle.std.specs.declared.time.Duration.{Duration}
use Rattle.std.specs.declared.time.Instant.{Instant}
use Rattle.bm_session.specs.Trace.{is_up}
use Rattle.std.specs.Option.{unwrap_or}
use Rattle.bm_latent.specs.TickCounter.{CounterView, after_telling, told_at}
use Rattle.bm_lane.specs.Ends.{Heard}
use Rattle.bm_link.specs.Carries.{Carried}
use Rattle.bm_link.specs.Control.{names_kept}
use Rattle.bm_link.specs.Link.{LinkState}
use Rattle.bm_link.specs.declared.attaching.Attached.{Attached}
use Rattle.bm_link.specs.declared.fault.LinkFault.{LinkFault}
use Rattle.bm_link.specs.declared.turn.Turn.{Turn}
use Rattle.bm_lane_actor.specs.ResumeTimer.{dismissed}
use Rattle.bm_lane_actor.specs.LaneEvents.{connection_of}
use Rattle.bm_lane_actor.specs.LanePolicy.{PolicyView, acts_of, is_read, policy_after}
use Rattle.bm_lane_actor.specs.LaneStates.{LaneView, Attaches, Closes, Expires, GivesUp, Interrupts, Pings, ShutsDown, StartsOrder, Ticks, Turns, awaited_of, with_timer}
use Rattle.bm_lane_actor.specs.PeerTimer.{glance_at, rest_at}
use Rattle.bm_lane_actor.specs.ReadWatch.{goes_on}
use Rattle.bm_lane_actor.specs.StopOrders.{after_try, due}
use Rattle.bm_lane_actor.specs.declared.byte_count.CountedCommand.{CountedCommand}
use Rattle.bm_lane_actor.specs.declared.lane_policy.LaneInput.{LaneInput}
use Rattle.bm_lane_actor.specs.declared.lane_policy.LaneInput.TheVariants as input
use Rattle.bm_lane_actor.specs.declared.lane_policy.LinkAct.{LinkAct}
use Rattle.bm_lane_actor.specs.declared.lane_policy.LinkAct.TheVariants as link
use Rattle.bm_lane_actor.specs.declared.lane_policy.SecondAct.{SecondAct}
use Rattle.bm_lane_actor.specs.declared.lane_policy.SecondAct.TheVariants as second
use Rattle.bm_lane_actor.specs.declared.lane_policy.LaneActs.{LaneActs}
use Rattle.bm_lane_actor.specs.declared.lane_request.LaneRequest.{LaneRequest}
use Rattle.bm_lane_actor.specs.declared.lane_request.LaneRequest.TheVariants as request
use Rattle.bm_lane_actor.specs.declared.lane_state.Awaited.{Awaited}
use Rattle.bm_lane_actor.specs.declared.lane_state.Awaited.TheVariants as awaited
use Rattle.bm_lane_actor.specs.declared.mailbox.NextRequest.{NextRequest}
use Rattle.bm_lane_actor.specs.declared.mailbox.NextRequest.TheVariants as next
use Rattle.bm_lane_actor.specs.declared.lane_request.StartOrder.{StartOrder}
use Rattle.bm_lane_actor.specs.declared.order_outcome.OrderOutcome.{OrderOutcome}
use Rattle.bm_lane_actor.specs.declared.order_outcome.OrderOutcome.TheVariants as outcome

-- The lane with its link, what is to be done about that, and a link that waits. The commands that
-- are to be interrupted, and those whose bytes are counted. Whether a read may give something, and
-- the ticks of a lane that is cut. When its clock began.
pub record ActorView (S : Type 0) : Type 0 where
  pub state : LaneView S
  pub policy : PolicyView
  pub waiting : Option (LinkState S)
  pub stops : List ℕ
  pub counted : List CountedCommand
  pub lively : Bool
  pub ticks : Option CounterView
  pub began : Option Instant

-- a command that was started is counted by what its order gave for that
abbrev pub counting_too : OrderOutcome → StartOrder → List CountedCommand → List CountedCommand
counting_too (outcome.Started k) order cs = cs ++ record { command = k; bytes = order.bytes } ∷ []
counting_too t order cs = cs

-- how many ticks have ended, where they are counted, and how they are counted from then on
abbrev pub ended_ticks : Option ℕ → Option CounterView → Option ℕ
ended_ticks now (Some c) = Some (told_at c now)
ended_ticks now None = None

abbrev pub counted_until : Option ℕ → Option CounterView → Option CounterView
counted_until now (Some c) = Some (after_telling c now)
counted_until now None = Some (record { tick = 10; last = unwrap_or now 0 })

module _ {S : Type 0} where
  -- the lane alone is touched, and a read may give something or not
  abbrev pub with_state : ActorView S → LaneView S → Bool → ActorView S
  with_state a s lively = record a { state = s; lively = lively }

  abbrev pub with_policy : ActorView S → PolicyView → ActorView S
  with_policy a p = record a { policy = p }

  abbrev pub with_waiting : ActorView S → Option (LinkState S) → ActorView S
  with_waiting a w = record a { waiting = w }

  abbrev pub with_ticks : ActorView S → Option CounterView → ActorView S
  with_ticks a t = record a { ticks = t }

  -- the ticks begin anew where the lane has more than so many events
  abbrev pub ticks_heard : ℕ → ActorView S → Option CounterView
  ticks_heard n a = if n == length a.state.lane.trace then a.ticks else None

  abbrev pub with_stops : ActorView S → List ℕ → ActorView S
  with_stops a ks = record a { stops = ks }

  -- a turn of the lane's link
  abbrev pub TakesTurn : (S → Option (List ℕ)) → (S → Option (List ℕ)) → ActorView S → ActorView S → Type 0
  TakesTurn remaining contents old new =
      (r : Result Turn LinkFault) × (drained : Bool)
      × Turns remaining contents old.state.link old.state r new.state
      × (new ≡ with_state old new.state (goes_on r drained))

  -- the worker is asked for a sign of life, and another turn follows
  abbrev pub Asks : (S → Option (List ℕ)) → ActorView S → ActorView S → Type 0
  Asks contents old new =
      Pings contents old.state.link old.state new.state × (new ≡ with_state old new.state true)

  -- what is to be done with the lane's link
  abbrev pub DoesLink : (S → Option (List ℕ)) → (S → Option (List ℕ)) → LinkAct → ActorView S → ActorView S → Type 0
  DoesLink remaining contents link.Nothing old new = new ≡ old
  DoesLink remaining contents link.Read old new = new ≡ old
  DoesLink remaining contents link.Ping old new = Asks contents old new
  DoesLink remaining contents link.Fail old new = TakesTurn remaining contents old new

  -- a link has taken the lane up, which the policy hears, by which so much came
  abbrev pub Welcomes : ActorView S → ActorView S → Type 0
  Welcomes old new =
      (came now : ℕ)
      × (new ≡ record old { policy = policy_after (input.Attached came) now old.policy; ticks = None })

  -- A login came to this at the lane, which is so now. A link that has taken it up is told to the
  -- policy. The ticks begin anew where the lane has heard something.
  abbrev pub after_login : Result Attached LinkFault → ℕ → ℕ → LaneView S → ActorView S → ActorView S
  after_login (Ok a) came now s old =
      record old {
        state = s;
        policy = policy_after (input.Attached came) now old.policy;
        lively = true;
        ticks = None;
      }
  after_login (Err f) came now s old =
      record old {
        state = s;
        lively = true;
        ticks = if length old.state.lane.trace == length s.lane.trace then old.ticks else None;
      }

  -- a link comes to the lane
  abbrev pub Admits : (S → Option (List ℕ)) → LinkState S → ActorView S → ActorView S → Type 0
  Admits contents l old new =
      (r : Result Attached LinkFault) × (came now : ℕ)
      × Attaches contents l old.state.link old.state r new.state
      × (new ≡ after_login r came now new.state old)

  -- the link that waits, if there is one, comes to the lane
  abbrev pub AdmitsFirst : (S → Option (List ℕ)) → Option (LinkState S) → ActorView S → ActorView S → Type 0
  AdmitsFirst contents None old new = new ≡ old
  AdmitsFirst contents (Some l) old new = Admits contents l (with_waiting old None) new

  -- what is to be done with the link that waits
  abbrev pub DoesSecond : (S → Option (List ℕ)) → SecondAct → ActorView S → ActorView S → Type 0
  DoesSecond contents second.Wait old new = new ≡ old
  DoesSecond contents second.Replace old new = new ≡ old
  DoesSecond contents second.Displace old new = new ≡ old
  DoesSecond contents second.Admit old new = AdmitsFirst contents old.waiting old new
  DoesSecond contents second.Drop old new = new ≡ with_waiting old None
  DoesSecond contents second.PutOff old new = new ≡ with_waiting old None

  -- what the policy said is done
  abbrev pub Does : (S → Option (List ℕ)) → (S → Option (List ℕ)) → LaneActs → ActorView S → ActorView S → Type 0
  Does remaining contents acts old new =
      (mid : ActorView S)
      × DoesLink remaining contents acts.link old mid × DoesSecond contents acts.second mid new

  -- an input comes to the policy, at some time, and what it says is done
  abbrev pub Follows : (S → Option (List ℕ)) → (S → Option (List ℕ)) → LaneInput → ActorView S → ActorView S → Type 0
  Follows remaining contents i old new =
      (now : ℕ)
      × Does remaining contents (acts_of i now old.policy) (with_policy old (policy_after i now old.policy)) new

  -- the policy is asked what is to be done by what came, and by whether the peer of the link that
  -- waits has left
  abbrev pub look_of : ℕ → Bool → Bool → ActorView S → LaneInput
  look_of came read left a = input.Look (is_up a.state.lane.trace) came read left

  abbrev pub Looks : Bool → ActorView S → LaneActs → ActorView S → Type 0
  Looks read old acts new =
      (came now : ℕ) × (left : Bool)
      × (acts ≡ acts_of (look_of came read left old) now old.policy)
      × (new ≡ with_policy old (policy_after (look_of came read left old) now old.policy))

  -- where the link is to be read once more it is, and the policy is asked again
  abbrev pub LooksAgain : (S → Option (List ℕ)) → (S → Option (List ℕ)) → Bool → LaneActs → ActorView S → LaneActs → ActorView S → Type 0
  LooksAgain remaining contents false first old acts new = (acts ≡ first) × (new ≡ old)
  LooksAgain remaining contents true first old acts new =
      (turned : ActorView S) × (read : Bool)
      × TakesTurn remaining contents old turned × Looks read turned acts new

  -- it is looked whether the worker lives, and done what follows
  abbrev pub Watches : (S → Option (List ℕ)) → (S → Option (List ℕ)) → ActorView S → ActorView S → Type 0
  Watches remaining contents old new =
      (first acts : LaneActs) × (looked again : ActorView S)
      × Looks false old first looked
      × LooksAgain remaining contents (is_read first.link) first looked acts again
      × Does remaining contents acts again new

  -- whether the link that waits is of the lane's own worker
  abbrev pub is_first_own : Option (LinkState S) → Carried → Bool
  is_first_own (Some l) kept = names_kept kept l.login
  is_first_own None kept = false

  abbrev pub login_of : LinkState S → ActorView S → LaneInput
  login_of l a =
      input.Login (is_up a.state.lane.trace) (names_kept a.state.resume_state l.login)
      (is_first_own a.waiting a.state.resume_state)

  -- the policy hears of a login, and the lane's worker is asked where it says that
  abbrev pub HearsLogin : (S → Option (List ℕ)) → (S → Option (List ℕ)) → LinkState S → ActorView S → SecondAct → ActorView S → Type 0
  HearsLogin remaining contents l old s new =
      (now : ℕ)
      × (s ≡ (acts_of (login_of l old) now old.policy).second)
      × DoesLink remaining contents (acts_of (login_of l old) now old.policy).link
      (with_policy old (policy_after (login_of l old) now old.policy)) new

  -- before that it is looked whether a lane that is up still is
  abbrev pub LooksFirst : (S → Option (List ℕ)) → (S → Option (List ℕ)) → Bool → ActorView S → ActorView S → Type 0
  LooksFirst remaining contents false old new = new ≡ old
  LooksFirst remaining contents true old new =
      (turned : ActorView S) × TakesTurn remaining contents old turned × Watches remaining contents turned new

  -- what is done with a link that has logged in
  abbrev pub Places : (S → Option (List ℕ)) → SecondAct → LinkState S → ActorView S → ActorView S → Type 0
  Places contents second.Wait l old new = new ≡ with_waiting old (Some l)
  Places contents second.Replace l old new = new ≡ with_waiting old (Some l)
  Places contents second.Displace l old new =
      (mid : ActorView S) × AdmitsFirst contents old.waiting old mid × (new ≡ with_waiting mid (Some l))
  Places contents second.Admit l old new = Admits contents l old new
  Places contents second.Drop l old new = Admits contents l old new
  Places contents second.PutOff l old new = Admits contents l old new

  -- A link has logged in. One whose arrivals the system doesn't tell is let go.
  abbrev pub Comes : (S → Option (List ℕ)) → (S → Option (List ℕ)) → LinkState S → ActorView S → ActorView S → Type 0
  Comes remaining contents l old new =
      (new ≡ old)
      ⊎ ((looked asked : ActorView S) × (s : SecondAct)
      × LooksFirst remaining contents (is_up old.state.lane.trace) old looked
      × HearsLogin remaining contents l looked s asked × Places contents s l asked new)

  -- a cut lane is given up whose worker is awaited no more
  abbrev pub GivenUp : ActorView S → ActorView S → Type 0
  GivenUp old new = Expires old.state new.state × (new ≡ with_state old new.state old.lively)

  -- a tick of a cut lane has passed
  abbrev pub TickPasses : ActorView S → ActorView S → Type 0
  TickPasses old new = Ticks old.state new.state × (new ≡ with_state old new.state old.lively)

  -- the oldest order to interrupt a command is sent, where the lane takes it
  abbrev pub SendsOrder : (S → Option (List ℕ)) → Option ℕ → ActorView S → ActorView S → Type 0
  SendsOrder contents None old new = new ≡ old
  SendsOrder contents (Some k) old new =
      (t : OrderOutcome)
      × Interrupts contents k old.state.link old.state t new.state
      × (new ≡ record old { state = new.state; stops = after_try t old.stops; lively = true })

  abbrev pub SendsStop : (S → Option (List ℕ)) → ActorView S → ActorView S → Type 0
  SendsStop contents old new =
      SendsOrder contents (due (connection_of old.state.lane.trace) old.stops) old new

  -- the order to interrupt a command is kept, where there is memory for that
  abbrev pub kept_stop : ℕ → Bool → ActorView S → ActorView S
  kept_stop k kept a = with_stops a (if kept then a.stops ++ k ∷ [] else a.stops)

  -- A command is started, or not. Nothing else of the actor is touched but that another turn
  -- follows.
  abbrev pub StartsCounted : (S → Option (List ℕ)) → StartOrder → ActorView S → OrderOutcome → ActorView S → Type 0
  StartsCounted contents order old t new =
      StartsOrder contents order.words old.state t new.state
      × (new ≡ record old {
        state = new.state;
        counted = counting_too t order old.counted;
        lively = new.lively;
      })

  -- so many ticks have passed, or the first begins: the lane alone is touched
  abbrev pub PassesTicks : Option ℕ → ActorView S → ActorView S → Type 0
  PassesTicks (Some n) old new = new ≡ with_state old new.state old.lively
  PassesTicks None old new = GivenUp old new

  -- the ticks of a lane that is cut are counted from one time to the next
  abbrev pub CountsTicks : Awaited → ActorView S → ActorView S → Type 0
  CountsTicks awaited.Tick old new =
      (now : Option ℕ)
      × PassesTicks (ended_ticks now old.ticks) (with_ticks old (counted_until now old.ticks)) new
  CountsTicks awaited.Request old new = new ≡ with_ticks old None
  CountsTicks awaited.Glance old new = new ≡ with_ticks old None
  CountsTicks awaited.Message old new = new ≡ with_ticks old None

  abbrev pub TurnsWhere : (S → Option (List ℕ)) → (S → Option (List ℕ)) → Bool → ActorView S → ActorView S → Type 0
  TurnsWhere remaining contents true old new = TakesTurn remaining contents old new
  TurnsWhere remaining contents false old new = new ≡ old

  -- the worker is to shut down: a lane that is cut is given up
  abbrev pub ShutsWorkerDown : (S → Option (List ℕ)) → (S → Option (List ℕ)) → ActorView S → ActorView S → Type 0
  ShutsWorkerDown remaining contents old new =
      (heard : ActorView S) × (asked : LaneView S)
      × Follows remaining contents input.ShutDown old heard
      × ShutsDown contents heard.state.link heard.state asked
      × GivenUp (with_state heard asked true) new

  -- the worker's process has ended: what lies ready is read, and then it is no more awaited
  abbrev pub EndsProcess : (S → Option (List ℕ)) → (S → Option (List ℕ)) → ActorView S → ActorView S → Type 0
  EndsProcess remaining contents old new =
      (turned heard : ActorView S) × (came : ℕ)
      × TurnsWhere remaining contents (is_up old.state.lane.trace) old turned
      × Follows remaining contents (input.Ended (is_up turned.state.lane.trace) came) turned heard
      × GivenUp (with_state heard (with_timer heard.state (dismissed heard.state.timer)) true) new

  -- a signal is taken, where it was given
  abbrev pub MayShutDown : (S → Option (List ℕ)) → (S → Option (List ℕ)) → ActorView S → ActorView S → Type 0
  MayShutDown remaining contents old new = (new ≡ old) ⊎ ShutsWorkerDown remaining contents old new

  abbrev pub MayEnd : (S → Option (List ℕ)) → (S → Option (List ℕ)) → ActorView S → ActorView S → Type 0
  MayEnd remaining contents old new = (new ≡ old) ⊎ EndsProcess remaining contents old new

  abbrev pub Signals : (S → Option (List ℕ)) → (S → Option (List ℕ)) → ActorView S → ActorView S → Type 0
  Signals remaining contents old new =
      (mid : ActorView S)
      × MayShutDown remaining contents old mid × MayEnd remaining contents mid new

  -- a request is obeyed
  abbrev pub Obeys : (S → Option (List ℕ)) → (S → Option (List ℕ)) → LaneRequest S → ActorView S → ActorView S → Type 0
  Obeys remaining contents (request.Attach l) old new = Comes remaining contents l old new
  Obeys remaining contents (request.Start order answer) old new =
      (t : OrderOutcome) × StartsCounted contents order old t new
  Obeys remaining contents (request.Interrupt k answer) old new =
      (kept : Bool) × (new ≡ kept_stop k kept old)
  Obeys remaining contents (request.Seen k) old new =
      new ≡ record old { counted = filter (λ (c : CountedCommand). not (k == c.command)) old.counted }
  Obeys remaining contents (request.Settle answer) old new = new ≡ old
  Obeys remaining contents (request.PutOff answer) old new =
      Follows remaining contents input.PutOff old new

  -- what lies in the mailbox is obeyed, or else the worker heard; it ends where nobody could send
  abbrev pub TakesNext : (S → Option (List ℕ)) → (S → Option (List ℕ)) → NextRequest S → ActorView S → Bool → ActorView S → Type 0
  TakesNext remaining contents (next.Request r) old on new =
      (on ≡ true) × Obeys remaining contents r old new
  TakesNext remaining contents next.Nothing old on new =
      (on ≡ true) × TakesTurn remaining contents old new
  TakesNext remaining contents next.Left old on new = (on ≡ false) × (new ≡ old)

  -- it waits, and an arrival says that a read may give something
  abbrev pub Waits : ActorView S → ActorView S → Type 0
  Waits old new = (arrived : Bool) × (new ≡ with_state old old.state (arrived || old.lively))

  -- One round of the actor: it is told to leave, or does all that is due in this order. Then it
  -- waits, and takes what lies in the mailbox.
  abbrev pub Runs : (S → Option (List ℕ)) → (S → Option (List ℕ)) → ActorView S → Bool → ActorView S → Type 0
  Runs remaining contents old on new =
      ((on ≡ false) × (new ≡ old))
      ⊎ ((signalled watched sent counted waited : ActorView S) × (n : NextRequest S)
      × Signals remaining contents old signalled × Watches remaining contents signalled watched
      × SendsStop contents watched sent
      × CountsTicks (awaited_of sent.lively (connection_of sent.state.lane.trace)) sent counted
      × Waits counted waited × TakesNext remaining contents n waited on new)

  -- the worker is told by a close frame, and the session is given up
  abbrev pub Departs : (S → Option (List ℕ)) → ActorView S → ActorView S → Type 0
  Departs contents old new =
      (closed : LaneView S)
      × Closes contents old.state.link old.state closed × GivesUp closed true new.state
      × (new ≡ with_state old new.state old.lively)

  -- a lane's end comes back once its session was given up
  abbrev pub HandsBack : (S → Option (List ℕ)) → Heard → Type 0
  HandsBack contents lane =
      (last gone : ActorView S) × Departs contents last gone × (lane ≡ gone.state.lane)

  -- it waits at most until something is to be done about a silent worker
  abbrev pub Rests : ActorView S → Duration → Type 0
  Rests a most =
      (now : ℕ)
      × (as_nanos most ≡ 1_000_000
      * glance_at (is_up a.state.lane.trace) (rest_at now a.policy.peer) a.policy.waits)

  -- the policy says whether a link waits
  abbrev pub Agrees : ActorView S → Type 0
  Agrees a = a.policy.waits ≡ is_some a.waiting

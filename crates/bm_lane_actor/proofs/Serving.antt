-- What calls do on a state that has a link, and on one that has none.
use Rattle.std.proofs.Common.{◌≡◌, refl, sym, ◌∙◌, ap, subst, ℕ, Bool, true, false, not, ◌||◌, List, length, Option, Some, None, Result, Ok, Err}
use Rattle.std.specs.Prelude.{◌==◌, is_some, if◌then◌else◌}
use Rattle.bm_session.proofs.Pushed.{is_up-push}
use Rattle.bm_session.specs.declared.event.Event.{Event}
use Rattle.bm_session.specs.declared.event.Event.TheVariants as event
use Rattle.bm_session.specs.declared.reply.Reply.{Reply}
use Rattle.bm_session.specs.Trace.{commands, orders, is_up, is_cut}
use Rattle.bm_lane.specs.Ends.{Heard}
use Rattle.bm_lane.specs.Hearing.{Hears}
use Rattle.bm_lane.specs.declared.refusals.HearRefusal.{HearRefusal}
use Rattle.bm_link.specs.declared.asks.Ask.TheVariants.{Shutdown}
use Rattle.bm_link.specs.declared.attaching.Attached.{Attached}
use Rattle.bm_link.specs.declared.fault.LinkFault.{LinkFault}
use Rattle.bm_link.specs.declared.turn.Turn.{Turn}
use Rattle.bm_link.specs.Asking.{AsksFor}
use Rattle.bm_link.specs.Carries.{Carried}
use Rattle.bm_link.specs.Control.{ClosesFor, PingsFor}
use Rattle.bm_link.specs.Link.{LinkState, Turned}
use Rattle.bm_link.specs.Orders.{Starts as LinkStarts, Interrupts as LinkInterrupts}
use Rattle.bm_lane_actor.specs.ResumeTimer.{TimerView, begun, dismissed}
use Rattle.bm_lane_actor.specs.declared.order_outcome.OrderOutcome.{OrderOutcome}
use Rattle.bm_lane_actor.specs.declared.connection_state.ConnectionState.TheVariants.{Up, Cut, Down}
use Rattle.bm_lane_actor.specs.LaneEvents.{is_awaited, connection_of}
use Rattle.bm_link.specs.Laws.{CarriesPending}
use Rattle.bm_lane_actor.proofs.Carrying.{attached as carries_attached}
use Rattle.bm_lane_actor.specs.LaneStates.{LaneView, kept, counting, timer_in, renewed, start_outcome, interrupt_outcome, TakesUp, Declines, Attaches, Turns, Starts, Interrupts, ShutsDown, Pings, Closes}

-- after a login ticks are counted just where the lane is cut
counted : (u k x : Bool) (term : TimerView)
    → is_some (timer_in (if u then Up else (if k then Cut else Down)) (if u || x then begun term else term)).cut
    ≡ is_awaited (if u then Up else (if k then Cut else Down))
counted true k x term = refl
counted false true x term = refl
counted false false x term = refl

-- that, by the words that are compared
pub renews : (lane lane2 : Heard) (events : ℕ) (term term1 term2 : TimerView) → events ≡ length lane.trace
    → term1 ≡ renewed events lane2 term → term2 ≡ counting lane2 term1 → term2 ≡ counting lane2 (renewed (length lane.trace) lane2 term)
renews lane lane2 events term term1 term2 e r c =
    c ∙ ap (λ (t : TimerView). counting lane2 t) (r ∙ ap (λ (n : ℕ). renewed n lane2 term) e)

-- ticks are counted just while the lane is cut
ticked : (u k : Bool) (term : TimerView) → is_some term.cut ≡ is_awaited (if u then Up else (if k then Cut else Down))
    → is_some (timer_in (if u then Up else (if k then Cut else Down)) term).cut ≡ is_awaited (if u then Up else (if k then Cut else Down))
ticked true k term h = h
ticked false true term h = refl
ticked false false term h = refl

ticked-down : (u k : Bool) (term : TimerView) → u ≡ false
    → is_some (timer_in (if u then Up else (if k then Cut else Down)) term).cut ≡ is_awaited (if u then Up else (if k then Cut else Down))
ticked-down true k term e = cc
ticked-down false true term e = refl
ticked-down false false term e = refl

module _ {S : Type 0} where
  held : (u : Bool) (link : Option (LinkState S)) → is_some link ≡ u → is_some (if u then link else None) ≡ u
  held true link h = h
  held false link h = refl

  -- a lane that is given up keeps no link, and one that refuses that stays as it was
  pub let_go : (lane lane2 : Heard) (link second : Option (LinkState S)) (term term2 : TimerView) (r : Result Reply (Event × HearRefusal))
      → is_some link ≡ is_up lane.trace → is_some term.cut ≡ is_awaited (connection_of lane.trace) → Hears lane event.Down r lane2
      → second ≡ kept lane2 link → term2 ≡ counting lane2 term
      → (is_some second ≡ is_up lane2.trace) × (is_some term2.cut ≡ is_awaited (connection_of lane2.trace))
  let_go lane lane2 link second term term2 (Ok reply) has counts (l, is, none) k c =
      let d : is_up lane2.trace ≡ false = ap (λ (y : Heard). is_up y.trace) l ∙ is_up-push lane.trace event.Down in (
        ap (λ (x : Option (LinkState S)). is_some x) k ∙ subst (λ (b : Bool). is_some (if b then link else None) ≡ b) (sym d) refl,
        ap (λ (x : TimerView). is_some x.cut) c ∙ ticked-down (is_up lane2.trace) (is_cut lane2.trace) term d,
      )
  let_go lane lane2 link second term term2 (Err back) has counts (l, is, refuses) k c = (
    ap (λ (x : Option (LinkState S)). is_some x) k ∙ subst (λ (y : Heard). is_some (kept y link) ≡ is_up y.trace) (sym l) (held (is_up lane.trace) link has),
    ap (λ (x : TimerView). is_some x.cut) c
        ∙ subst (λ (y : Heard). is_some (counting y term).cut ≡ is_awaited (connection_of y.trace)) (sym l) (ticked (is_up lane.trace) (is_cut lane.trace) term counts),
  )

  pub attached : (contents : S → Option (List ℕ)) (link : LinkState S) (lane : Heard) (resume_state : Carried) (first : Option (LinkState S)) (term : TimerView)
      (r : Result Attached LinkFault) (lane2 : Heard) (resume_state2 : Carried) (second place : Option (LinkState S)) (term2 : TimerView)
      → is_some first ≡ false → TakesUp contents link lane resume_state term r second lane2 resume_state2 term2 → place ≡ second
      → Attaches contents link first (record { lane = lane; resume_state = resume_state; link = first; timer = term }) r (record { lane = lane2; resume_state = resume_state2; link = place; timer = term2 })
  attached contents link lane resume_state None term r lane2 resume_state2 second place term2 none h same =
      subst (λ (x : Option (LinkState S)). TakesUp contents link lane resume_state term r x lane2 resume_state2 term2) (sym same) h
  attached contents link lane resume_state (Some first) term r lane2 resume_state2 second place term2 none h same = cc

  -- a lane with a link stays as it was, and the other link has its fault
  pub declined : (contents : S → Option (List ℕ)) (link : LinkState S) (lane : Heard) (resume_state : Carried) (first : Option (LinkState S)) (term : TimerView)
      (f : LinkFault) (lane2 : Heard) (resume_state2 : Carried)
      → is_some first ≡ true → lane2 ≡ lane → resume_state2 ≡ resume_state → Declines contents link lane resume_state f
      → Attaches contents link first (record { lane = lane; resume_state = resume_state; link = first; timer = term }) (Err f)
      (record { lane = lane2; resume_state = resume_state2; link = first; timer = term })
  declined contents link lane resume_state None term f lane2 resume_state2 has l c h = cc
  declined contents link lane resume_state (Some first) term f lane2 resume_state2 has l c h =
      subst (λ (x : Heard). Attaches contents link (Some first) (record { lane = lane; resume_state = resume_state; link = Some first; timer = term }) (Err f)
      (record { lane = x; resume_state = resume_state2; link = Some first; timer = term })) (sym l)
      (subst (λ (x : Carried). Attaches contents link (Some first) (record { lane = lane; resume_state = resume_state; link = Some first; timer = term }) (Err f)
      (record { lane = lane; resume_state = x; link = Some first; timer = term })) (sym c) (refl, (f, refl, h)))

  kept-while : (b : Bool) (l : LinkState S) → is_some (if b then Some l else None) ≡ b
  kept-while true l = refl
  kept-while false l = refl

  -- the lane has the link while it is up, ticks are counted while it is cut, and what is carried is
  -- pending
  pub stands : (contents : S → Option (List ℕ)) (link : LinkState S) (lane : Heard) (resume_state : Carried) (term : TimerView)
      (r : Result Attached LinkFault) (lane2 : Heard) (resume_state2 : Carried) (second place : Option (LinkState S)) (term2 : TimerView)
      → CarriesPending resume_state lane.trace
      → TakesUp contents link lane resume_state term r second lane2 resume_state2 term2 → place ≡ second
      → (is_some place ≡ is_up lane2.trace) × (is_some term2.cut ≡ is_awaited (connection_of lane2.trace))
      × CarriesPending resume_state2 lane2.trace
  stands contents link lane resume_state term r lane2 resume_state2 second place term2 h (l2, t, k, c) same = (
    ap (λ (x : Option (LinkState S)). is_some x) (same ∙ k) ∙ kept-while (is_up lane2.trace) l2,
    ap (λ (x : TimerView). is_some x.cut) c ∙ counted (is_up lane2.trace) (is_cut lane2.trace) (not (length lane.trace == length lane2.trace)) term,
    carries_attached contents link.login link l2 lane lane2 resume_state resume_state2 r h t,
  )

  pub turned : (remaining contents : S → Option (List ℕ)) (old new : LaneView S) (l l2 : LinkState S) (r : Result Turn LinkFault)
      → old.link ≡ Some l → Turned remaining contents l.stage l old.lane old.resume_state r l2 new.lane new.resume_state
      → new.link ≡ kept new.lane (Some l2) → new.timer ≡ counting new.lane old.timer → Turns remaining contents old.link old r new
  turned remaining contents old new l l2 r is t k c = subst (λ (x : Option (LinkState S)). Turns remaining contents x old r new) (sym is) (l2, t, (k, c))

  pub started : (contents : S → Option (List ℕ)) (argv : List (List ℕ)) (old new : LaneView S) (l l2 : LinkState S) (r : Result ℕ LinkFault) (t : OrderOutcome)
      → old.link ≡ Some l → LinkStarts contents argv l.stage l old.lane old.resume_state r l2 new.lane new.resume_state
      → new.link ≡ kept new.lane (Some l2) → new.timer ≡ counting new.lane old.timer
      → t ≡ start_outcome (not (commands old.lane.trace == commands new.lane.trace)) r → Starts contents argv old.link old t new
  started contents argv old new l l2 r t is h k c e = subst (λ (x : Option (LinkState S)). Starts contents argv x old t new) (sym is) (r, l2, h, (k, c), e)

  pub interrupted : (contents : S → Option (List ℕ)) (command : ℕ) (old new : LaneView S) (l l2 : LinkState S) (r : Result (Unit {0}) LinkFault) (t : OrderOutcome)
      → old.link ≡ Some l → LinkInterrupts contents command l.stage l old.lane old.resume_state r l2 new.lane new.resume_state
      → new.link ≡ kept new.lane (Some l2) → new.timer ≡ counting new.lane old.timer
      → t ≡ interrupt_outcome (not (orders old.lane.trace == orders new.lane.trace)) r → Interrupts contents command old.link old t new
  interrupted contents command old new l l2 r t is h k c e = subst (λ (x : Option (LinkState S)). Interrupts contents command x old t new) (sym is) (r, l2, h, (k, c), e)

  pub shut_down : (contents : S → Option (List ℕ)) (old new : LaneView S) (l l2 : LinkState S) (r : Result (Unit {0}) LinkFault)
      → old.link ≡ Some l → AsksFor contents Shutdown l.stage l old.resume_state r l2 new.resume_state
      → new.link ≡ Some l2 → new.lane ≡ old.lane → new.timer ≡ dismissed old.timer → ShutsDown contents old.link old new
  shut_down contents old new l l2 r is h k lane c = subst (λ (x : Option (LinkState S)). ShutsDown contents x old new) (sym is) (r, l2, h, k, lane, c)

  pub pinged : (contents : S → Option (List ℕ)) (old new : LaneView S) (l l2 : LinkState S) (r : Result (Unit {0}) LinkFault)
      → old.link ≡ Some l → PingsFor contents l.stage l old.resume_state r l2 → new ≡ record old { link = Some l2 } → Pings contents old.link old new
  pinged contents old new l l2 r is h same = subst (λ (x : Option (LinkState S)). Pings contents x old new) (sym is) (r, l2, h, same)

  pub closed : (contents : S → Option (List ℕ)) (old new : LaneView S) (l l2 : LinkState S) (r : Result (Unit {0}) LinkFault)
      → old.link ≡ Some l → ClosesFor contents l.stage l r l2 → new ≡ record old { link = Some l2 } → Closes contents old.link old new
  closed contents old new l l2 r is h same = subst (λ (x : Option (LinkState S)). Closes contents x old new) (sym is) (r, l2, h, same)

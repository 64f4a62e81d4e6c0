-- What a state's calls carry stays what is pending in its lane.
use Rattle.std.proofs.Common.{◌≡◌, refl, sym, ap, subst, ℕ, Bool, true, false, not, ◌&&◌, List, [], ◌∷◌, ◌++◌, Option, Some, None, Result, Ok, Err, inl, inr, rules}
use Rattle.std.specs.Prelude.{◌⊎◌, nat_lt, ◌^◌, ◌+◌, if◌then◌else◌}
use Rattle.bm_session.proofs.Pushed.{is_cut-push}
use Rattle.bm_session.proofs.Taken.{front-taken, no-second-up}
use Rattle.bm_session.specs.declared.event.Event.{Event}
use Rattle.bm_session.specs.declared.event.Event.TheVariants.{Up, In, Go, Stop, Cut, Down}
use Rattle.bm_session.specs.declared.reply.Reply.{Reply}
use Rattle.bm_session.specs.declared.reply.Reply.TheVariants.{Silent, Answer}
use Rattle.bm_session.specs.declared.reply.Verdict.{Verdict}
use Rattle.bm_session.specs.Events.{is_order}
use Rattle.bm_session.specs.Trace.{Trace, is_up, is_cut, reply, was_taken}
use Rattle.bm_lane.specs.Ends.{Heard}
use Rattle.bm_lane.specs.Hearing.{with_event, Hears}
use Rattle.bm_lane.specs.declared.refusals.HearRefusal.{HearRefusal}
use Rattle.bm_link.proofs.Carried.{events_keep, orders_added, sessions_begin}
use Rattle.bm_link.specs.declared.asks.Ask.{Ask}
use Rattle.bm_link.specs.declared.attaching.Attached.{Attached}
use Rattle.bm_link.specs.declared.fault.LinkFault.{LinkFault}
use Rattle.bm_link.specs.declared.turn.Turn.{Turn}
use Rattle.bm_link.specs.declared.turn.Turn.TheVariants as turn
use Rattle.bm_link.specs.Asking.{AsksFor}
use Rattle.bm_link.specs.Attaching.{TakesUpFor, AttachesAs, Declined, beginning, cleared, taken_up, resumes}
use Rattle.bm_link.specs.Carries.{Carried, begun, carried_after, carried_with, has_asked, is_same, new_carried}
use Rattle.bm_link.specs.Endings.{Ends, Falls}
use Rattle.bm_link.specs.Laws.{CarriesPending}
use Rattle.bm_link.specs.Link.{LinkState, Turned, TurnedUp, TurnedFalling, TookAtMost}
use Rattle.bm_link.specs.Orders.{Starts, StartsUp, Interrupts, InterruptsUp, with_start, with_interrupt}
use Rattle.bm_link.specs.Asks.{SendsAsk}
use Rattle.bm_link.specs.Parts.{Took, Stays}

-- that of a lane's end
abbrev Keeps : Carried → Heard → Type 0
Keeps resume_state lane = CarriesPending resume_state lane.trace

abbrev IsTaken : Heard → Type 0
IsTaken lane = was_taken lane.trace ≡ true

moved : (resume_state resume_state2 : Carried) (lane lane2 : Heard) → lane2 ≡ lane → resume_state2 ≡ resume_state → Keeps resume_state lane → Keeps resume_state2 lane2
moved resume_state resume_state2 lane lane2 l c h =
    subst (λ (x : Carried). Keeps x lane2) (sym c) (subst (λ (y : Heard). Keeps resume_state y) (sym l) h)

-- Events

after-cut : (t : Trace) (resume_state : Carried) → CarriesPending resume_state t → CarriesPending resume_state (t ++ Cut ∷ [])
after-cut t resume_state h = events_keep t resume_state Cut refl refl h

after-down : (t : Trace) (resume_state : Carried) → CarriesPending resume_state t → CarriesPending resume_state (t ++ Down ∷ [])
after-down t resume_state h = events_keep t resume_state Down refl refl h

-- an event that is no order, on a lane that is up
taken-up : (t : Trace) (resume_state : Carried) (e : Event) → is_order e ≡ false → is_up t ≡ true → was_taken (t ++ e ∷ []) ≡ true
    → CarriesPending resume_state t → CarriesPending (carried_after resume_state e) (t ++ e ∷ [])
taken-up t resume_state Up o u w h = absurd (no-second-up t u w)
taken-up t resume_state Go o u w h = cc
taken-up t resume_state (Stop k) o u w h = cc
taken-up t resume_state Cut o u w h = after-cut t resume_state h
taken-up t resume_state Down o u w h = after-down t resume_state h
taken-up t resume_state (In n b) o u w h = events_keep t resume_state (In n b) refl refl h

took : (lane lane2 : Heard) (resume_state resume_state2 : Carried) (e : Event) → is_order e ≡ false → is_up lane.trace ≡ true → IsTaken lane2
    → Took lane resume_state e lane2 resume_state2 → Keeps resume_state lane → Keeps resume_state2 lane2
took lane lane2 resume_state resume_state2 e o u w (l, c) h =
    moved (carried_after resume_state e) resume_state2 (with_event lane e) lane2 l c (
    taken-up lane.trace resume_state e o u (subst (λ (y : Heard). IsTaken y) l w) h
    )

-- what has an answer is no order
answered : (t : Trace) (e : Event) (n : ℕ) (v : Verdict) → reply t e ≡ Answer n v → is_order e ≡ false
answered t Up n v r = refl
answered t Down n v r = refl
answered t Cut n v r = refl
answered t Go n v r = cc
answered t (Stop k) n v r = cc
answered t (In m b) n v r = refl

-- nor what asks for none
silent : (t : Trace) (e : Event) → reply t e ≡ Silent → is_order e ≡ false
silent t Up r = refl
silent t Down r = refl
silent t Cut r = refl
silent t Go r = cc
silent t (Stop k) r = cc
silent t (In m b) r = refl

-- The end of a link

-- that, by the lane alone
falls : (lane lane2 : Heard) (e : _) → Falls lane lane2 e → (lane2 ≡ with_event lane Down) ⊎ (lane2 ≡ lane)
falls lane lane2 e f = search rules

fallen : (lane lane2 : Heard) (resume_state : Carried) → (lane2 ≡ with_event lane Down) ⊎ (lane2 ≡ lane) → Keeps resume_state lane → Keeps resume_state lane2
fallen lane lane2 resume_state (inl d) h = moved resume_state resume_state (with_event lane Down) lane2 d refl (after-down lane.trace resume_state h)
fallen lane lane2 resume_state (inr d) h = moved resume_state resume_state lane lane2 d refl h

fallen-taken : (lane lane2 : Heard) → (lane2 ≡ with_event lane Down) ⊎ (lane2 ≡ lane) → IsTaken lane2 → IsTaken lane
fallen-taken lane lane2 (inl d) w = front-taken lane.trace (Down ∷ []) (subst (λ (y : Heard). IsTaken y) d w)
fallen-taken lane lane2 (inr d) w = subst (λ (y : Heard). IsTaken y) d w

over : (cuts : Bool) (lane lane2 : Heard) (resume_state : Carried) (e : _) → Ends cuts lane lane2 e → Keeps resume_state lane → Keeps resume_state lane2
over cuts lane lane2 resume_state e (inl (m, cut, d)) h = moved resume_state resume_state (with_event lane Cut) lane2 d refl (after-cut lane.trace resume_state h)
over cuts lane lane2 resume_state e (inr (n, f)) h = fallen lane lane2 resume_state (falls lane lane2 e f) h

over-taken : (cuts : Bool) (lane lane2 : Heard) (e : _) → Ends cuts lane lane2 e → IsTaken lane2 → IsTaken lane
over-taken cuts lane lane2 e (inl (m, cut, d)) w = front-taken lane.trace (Cut ∷ []) (subst (λ (y : Heard). IsTaken y) d w)
over-taken cuts lane lane2 e (inr (n, f)) w = fallen-taken lane lane2 (falls lane lane2 e f) w

-- Logins

resumed-up : (t : Trace) (resume_state : Carried) → is_cut t ≡ true → CarriesPending resume_state t → CarriesPending resume_state (t ++ Up ∷ [])
resumed-up t resume_state cut h = events_keep t resume_state Up refl (ap not cut) h

begun-up : (t : Trace) (resume_state : Carried) (named : Option (List ℕ)) → is_cut t ≡ false → CarriesPending (begun resume_state named) (t ++ Up ∷ [])
begun-up t resume_state named cut = sessions_begin.1 t resume_state Up named (ap not cut)

gone-up : (cut same : Bool) (lane : Heard) (resume_state : Carried) (named : Option (List ℕ)) → is_cut lane.trace ≡ cut → Keeps resume_state lane
    → Keeps (carried_with (cut && same) resume_state named) (with_event (if cut then (if cut && same then lane else with_event lane Down) else lane) Up)
gone-up true true lane resume_state named c h = resumed-up lane.trace resume_state c h
gone-up true false lane resume_state named c h = begun-up (lane.trace ++ Down ∷ []) resume_state named (is_cut-push lane.trace Down)
gone-up false same lane resume_state named c h = begun-up lane.trace resume_state named c

went-up : (lane : Heard) (resume_state : Carried) (named begins : Option (List ℕ)) → Keeps resume_state lane
    → Keeps (carried_with (resumes lane.trace resume_state named) resume_state begins) (taken_up (resumes lane.trace resume_state named) lane)
went-up lane resume_state named begins h = gone-up (is_cut lane.trace) (is_same resume_state.text named) lane resume_state begins refl h

cleared-keeps : (cut resumed : Bool) (lane : Heard) (resume_state : Carried) → Keeps resume_state lane
    → Keeps resume_state (if cut then (if resumed then lane else with_event lane Down) else lane)
cleared-keeps true true lane resume_state h = h
cleared-keeps true false lane resume_state h = after-down lane.trace resume_state h
cleared-keeps false resumed lane resume_state h = h

declined-keeps : (resumed : Bool) (lane lane2 : Heard) (resume_state resume_state2 : Carried) (why : HearRefusal) → Declined resumed lane lane2 why → resume_state2 ≡ resume_state
    → Keeps resume_state lane → Keeps resume_state2 lane2
declined-keeps resumed lane lane2 resume_state resume_state2 why (inl (l, cut, r, refuses)) c h = moved resume_state resume_state2 lane lane2 l c h
declined-keeps resumed lane lane2 resume_state resume_state2 why (inr (l, refuses)) c h =
    moved resume_state resume_state2 (cleared resumed lane) lane2 l c (cleared-keeps (is_cut lane.trace) resumed lane resume_state h)

-- Numbers of other requests

numbered : (t : Trace) (resume_state : Carried) → CarriesPending resume_state t → CarriesPending (has_asked resume_state) t
numbered t resume_state h = go (nat_lt resume_state.next_ask (2 ^ 63))
  where
    go : (b : Bool) → CarriesPending (if b then record resume_state { next_ask = resume_state.next_ask + 1 } else resume_state) t
    go true = h
    go false = h

module _ {S : Type 0} where
  pub attached : (contents : S → Option (List ℕ)) (login : Option _) (link link2 : LinkState S) (lane lane2 : Heard) (resume_state resume_state2 : Carried)
      (r : Result Attached LinkFault) → CarriesPending resume_state lane.trace → TakesUpFor contents login link lane resume_state r link2 lane2 resume_state2
      → CarriesPending resume_state2 lane2.trace
  attached contents None link link2 lane lane2 resume_state resume_state2 r h (e, n, (l, c)) = moved resume_state resume_state2 lane lane2 l c h
  attached contents (Some login) link link2 lane lane2 resume_state resume_state2 (Ok a) h (((told, l, c, sent), up), none) =
      moved (carried_with (resumes lane.trace resume_state login.session) resume_state (beginning login.session login.next)) resume_state2 (taken_up (resumes lane.trace resume_state login.session) lane) lane2 l c (
      went-up lane resume_state login.session (beginning login.session login.next) h
      )
  attached contents (Some login) link link2 lane lane2 resume_state resume_state2 (Err f) h (a, none) = go a
    where
      go : AttachesAs contents (resumes lane.trace resume_state login.session) login link.socket lane resume_state (Err (link2.stage, f)) link2.socket lane2 resume_state2 → Keeps resume_state2 lane2
      go (inl (failed, (why, d, is, told), c)) = declined-keeps (resumes lane.trace resume_state login.session) lane lane2 resume_state resume_state2 why d c h
      go (inr ((e, ends, at), c, unsent)) =
          over _ (taken_up (resumes lane.trace resume_state login.session) lane) lane2 resume_state2 e ends (
          moved (carried_with (resumes lane.trace resume_state login.session) resume_state (beginning login.session login.next)) resume_state2
          (taken_up (resumes lane.trace resume_state login.session) lane) (taken_up (resumes lane.trace resume_state login.session) lane) refl c (
          went-up lane resume_state login.session (beginning login.session login.next) h
          )
          )

  -- Turns

  at-most : (remaining contents : S → Option (List ℕ)) (link : LinkState S) (lane : Heard) (resume_state : Carried) (f : LinkFault) (s : _) (mid : Heard) (resume_state2 : Carried)
      → is_up lane.trace ≡ true → IsTaken mid → Keeps resume_state lane → TookAtMost remaining contents link lane resume_state f s mid resume_state2 → Keeps resume_state2 mid
  at-most remaining contents link lane resume_state f s mid resume_state2 u w h (inl ((l, c), none, fails)) = moved resume_state resume_state2 lane mid l c h
  at-most remaining contents link lane resume_state f s mid resume_state2 u w h (inr (e, s1, comes, inl ((l, c), same, declines))) = moved resume_state resume_state2 lane mid l c h
  at-most remaining contents link lane resume_state f s mid resume_state2 u w h (inr (e, s1, comes, inr (t, (n, v, asks, unsent)))) =
      took lane mid resume_state resume_state2 e (answered lane.trace e n v asks) u w t h

  -- a turn, by how far its link had come
  turned-as : (remaining contents : S → Option (List ℕ)) (s : _) (link link2 : LinkState S) (lane lane2 : Heard) (resume_state resume_state2 : Carried)
      (r : Result Turn LinkFault) → Turned remaining contents s link lane resume_state r link2 lane2 resume_state2
      → TurnedUp remaining contents link lane resume_state r link2 lane2 resume_state2
      ⊎ (((cuts : Bool) × TurnedFalling cuts link lane resume_state r link2 lane2 resume_state2) ⊎ Stays lane resume_state lane2 resume_state2)
  turned-as remaining contents s link link2 lane lane2 resume_state resume_state2 r t = search rules

  turned-up : (remaining contents : S → Option (List ℕ)) (link link2 : LinkState S) (lane lane2 : Heard) (resume_state resume_state2 : Carried)
      (r : Result Turn LinkFault) → is_up lane.trace ≡ true → IsTaken lane2 → Keeps resume_state lane
      → TurnedUp remaining contents link lane resume_state r link2 lane2 resume_state2 → Keeps resume_state2 lane2
  turned-up remaining contents link link2 lane lane2 resume_state resume_state2 (Ok turn.Heard) u w h (e, mid, comes, (t, (n, v, asks, sent)), up, none) =
      took lane lane2 resume_state resume_state2 e (answered lane.trace e n v asks) u w t h
  turned-up remaining contents link link2 lane lane2 resume_state resume_state2 (Ok turn.Noted) u w h (e, mid, comes, (t, asks, same), up, none) =
      took lane lane2 resume_state resume_state2 e (silent lane.trace e asks) u w t h
  turned-up remaining contents link link2 lane lane2 resume_state resume_state2 (Ok turn.Dropped) u w h ((k, k2, up, (l, c)), reads) = moved resume_state resume_state2 lane lane2 l c h
  turned-up remaining contents link link2 lane lane2 resume_state resume_state2 (Ok turn.Quiet) u w h ((k, k2, up, (l, c)), reads) = moved resume_state resume_state2 lane lane2 l c h
  turned-up remaining contents link link2 lane lane2 resume_state resume_state2 (Ok turn.Busy) u w h (e, comes, busy, k, up, (l, c)) = moved resume_state resume_state2 lane lane2 l c h
  turned-up remaining contents link link2 lane lane2 resume_state resume_state2 (Err f) u w h (mid, t, (e, ends, at), none) =
      over _ mid lane2 resume_state2 e ends (
      at-most remaining contents link lane resume_state f link2.socket mid resume_state2 u (over-taken _ mid lane2 e ends w) h t
      )

  falling : (cuts : Bool) (link link2 : LinkState S) (lane lane2 : Heard) (resume_state resume_state2 : Carried) (r : Result Turn LinkFault) → Keeps resume_state lane
      → TurnedFalling cuts link lane resume_state r link2 lane2 resume_state2 → Keeps resume_state2 lane2
  falling cuts link link2 lane lane2 resume_state resume_state2 (Ok turn.Busy) h (ends, up, none, c, same) = over cuts lane lane2 resume_state2 _ ends (moved resume_state resume_state2 lane lane refl c h)
  falling cuts link link2 lane lane2 resume_state resume_state2 (Ok turn.Heard) h d = absurd d
  falling cuts link link2 lane lane2 resume_state resume_state2 (Ok turn.Noted) h d = absurd d
  falling cuts link link2 lane lane2 resume_state resume_state2 (Ok turn.Dropped) h d = absurd d
  falling cuts link link2 lane lane2 resume_state resume_state2 (Ok turn.Quiet) h d = absurd d
  falling cuts link link2 lane lane2 resume_state resume_state2 (Err f) h (is, inl ends, up, none, c, same) = over cuts lane lane2 resume_state2 _ ends (moved resume_state resume_state2 lane lane refl c h)
  falling cuts link link2 lane lane2 resume_state resume_state2 (Err f) h (is, inr ends, up, none, c, same) = over cuts lane lane2 resume_state2 _ ends (moved resume_state resume_state2 lane lane refl c h)

  pub turned : (remaining contents : S → Option (List ℕ)) (s : _) (link link2 : LinkState S) (lane lane2 : Heard) (resume_state resume_state2 : Carried)
      (r : Result Turn LinkFault) → is_up lane.trace ≡ true → was_taken lane2.trace ≡ true → CarriesPending resume_state lane.trace
      → Turned remaining contents s link lane resume_state r link2 lane2 resume_state2 → CarriesPending resume_state2 lane2.trace
  turned remaining contents s link link2 lane lane2 resume_state resume_state2 r u w h t = go (turned-as remaining contents s link link2 lane lane2 resume_state resume_state2 r t)
    where
      go : TurnedUp remaining contents link lane resume_state r link2 lane2 resume_state2
          ⊎ (((cuts : Bool) × TurnedFalling cuts link lane resume_state r link2 lane2 resume_state2) ⊎ Stays lane resume_state lane2 resume_state2) → Keeps resume_state2 lane2
      go (inl t) = turned-up remaining contents link link2 lane lane2 resume_state resume_state2 r u w h t
      go (inr (inl (cuts, t))) = falling cuts link link2 lane lane2 resume_state resume_state2 r h t
      go (inr (inr (l, c))) = moved resume_state resume_state2 lane lane2 l c h

  -- Orders

  started-as : (contents : S → Option (List ℕ)) (argv : List (List ℕ)) (s : _) (link link2 : LinkState S) (lane lane2 : Heard) (resume_state resume_state2 : Carried)
      (r : Result ℕ LinkFault) → Starts contents argv s link lane resume_state r link2 lane2 resume_state2
      → StartsUp contents argv link lane resume_state r link2 lane2 resume_state2 ⊎ Stays lane resume_state lane2 resume_state2
  started-as contents argv s link link2 lane lane2 resume_state resume_state2 r t = search rules

  started-up : (contents : S → Option (List ℕ)) (argv : List (List ℕ)) (link link2 : LinkState S) (lane lane2 : Heard) (resume_state resume_state2 : Carried)
      (r : Result ℕ LinkFault) → Keeps resume_state lane → StartsUp contents argv link lane resume_state r link2 lane2 resume_state2 → Keeps resume_state2 lane2
  started-up contents argv link link2 lane lane2 resume_state resume_state2 (Ok k) h (is, c, inl (sent, l)) =
      moved (with_start lane.trace argv resume_state) resume_state2 (with_event lane Go) lane2 l c (orders_added lane.trace resume_state Go _ refl h)
  started-up contents argv link link2 lane lane2 resume_state resume_state2 (Ok k) h (is, c, inr (f, unsent, may, l, failed, none)) =
      moved (with_start lane.trace argv resume_state) resume_state2 (with_event (with_event lane Go) Cut) lane2 l c (
      after-cut (lane.trace ++ Go ∷ []) (with_start lane.trace argv resume_state) (orders_added lane.trace resume_state Go _ refl h)
      )
  started-up contents argv link link2 lane lane2 resume_state resume_state2 (Err f) h (inl (why, is, refuses, same, (l, c))) = moved resume_state resume_state2 lane lane2 l c h
  started-up contents argv link link2 lane lane2 resume_state resume_state2 (Err f) h (inr (c, (unsent, (e, nocut, f2, at), none))) =
      fallen (with_event lane Go) lane2 resume_state2 (falls (with_event lane Go) lane2 e f2) (
      moved (with_start lane.trace argv resume_state) resume_state2 (with_event lane Go) (with_event lane Go) refl c (orders_added lane.trace resume_state Go _ refl h)
      )

  pub started : (contents : S → Option (List ℕ)) (argv : List (List ℕ)) (s : _) (link link2 : LinkState S) (lane lane2 : Heard) (resume_state resume_state2 : Carried)
      (r : Result ℕ LinkFault) → CarriesPending resume_state lane.trace → Starts contents argv s link lane resume_state r link2 lane2 resume_state2 → CarriesPending resume_state2 lane2.trace
  started contents argv s link link2 lane lane2 resume_state resume_state2 r h t = go (started-as contents argv s link link2 lane lane2 resume_state resume_state2 r t)
    where
      go : StartsUp contents argv link lane resume_state r link2 lane2 resume_state2 ⊎ Stays lane resume_state lane2 resume_state2 → Keeps resume_state2 lane2
      go (inl t) = started-up contents argv link link2 lane lane2 resume_state resume_state2 r h t
      go (inr (l, c)) = moved resume_state resume_state2 lane lane2 l c h

  interrupted-as : (contents : S → Option (List ℕ)) (k : ℕ) (s : _) (link link2 : LinkState S) (lane lane2 : Heard) (resume_state resume_state2 : Carried)
      (r : Result (Unit {0}) LinkFault) → Interrupts contents k s link lane resume_state r link2 lane2 resume_state2
      → InterruptsUp contents k link lane resume_state r link2 lane2 resume_state2 ⊎ Stays lane resume_state lane2 resume_state2
  interrupted-as contents k s link link2 lane lane2 resume_state resume_state2 r t = search rules

  interrupted-up : (contents : S → Option (List ℕ)) (k : ℕ) (link link2 : LinkState S) (lane lane2 : Heard) (resume_state resume_state2 : Carried)
      (r : Result (Unit {0}) LinkFault) → Keeps resume_state lane → InterruptsUp contents k link lane resume_state r link2 lane2 resume_state2 → Keeps resume_state2 lane2
  interrupted-up contents k link link2 lane lane2 resume_state resume_state2 (Ok done) h (c, l, sent) =
      moved (with_interrupt lane.trace k resume_state) resume_state2 (with_event lane (Stop k)) lane2 l c (orders_added lane.trace resume_state (Stop k) _ refl h)
  interrupted-up contents k link link2 lane lane2 resume_state resume_state2 (Err f) h (inl (why, is, refuses, same, (l, c))) = moved resume_state resume_state2 lane lane2 l c h
  interrupted-up contents k link link2 lane lane2 resume_state resume_state2 (Err f) h (inr (c, (unsent, (e, ends, at), none))) =
      over _ (with_event lane (Stop k)) lane2 resume_state2 e ends (
      moved (with_interrupt lane.trace k resume_state) resume_state2 (with_event lane (Stop k)) (with_event lane (Stop k)) refl c (orders_added lane.trace resume_state (Stop k) _ refl h)
      )

  pub interrupted : (contents : S → Option (List ℕ)) (k : ℕ) (s : _) (link link2 : LinkState S) (lane lane2 : Heard) (resume_state resume_state2 : Carried)
      (r : Result (Unit {0}) LinkFault) → CarriesPending resume_state lane.trace → Interrupts contents k s link lane resume_state r link2 lane2 resume_state2 → CarriesPending resume_state2 lane2.trace
  interrupted contents k s link link2 lane lane2 resume_state resume_state2 r h t = go (interrupted-as contents k s link link2 lane lane2 resume_state resume_state2 r t)
    where
      go : InterruptsUp contents k link lane resume_state r link2 lane2 resume_state2 ⊎ Stays lane resume_state lane2 resume_state2 → Keeps resume_state2 lane2
      go (inl t) = interrupted-up contents k link link2 lane lane2 resume_state resume_state2 r h t
      go (inr (l, c)) = moved resume_state resume_state2 lane lane2 l c h

  -- Other requests

  asked-as : (contents : S → Option (List ℕ)) (ask : Ask) (s : _) (link link2 : LinkState S) (resume_state resume_state2 : Carried)
      (r : Result (Unit {0}) LinkFault) → AsksFor contents ask s link resume_state r link2 resume_state2
      → SendsAsk contents resume_state ask link.socket r link2.socket resume_state2 ⊎ (resume_state2 ≡ resume_state)
  asked-as contents ask s link link2 resume_state resume_state2 r t = search rules

  asked-up : (contents : S → Option (List ℕ)) (ask : Ask) (link link2 : LinkState S) (lane : Heard) (resume_state resume_state2 : Carried)
      (r : Result (Unit {0}) LinkFault) → Keeps resume_state lane → SendsAsk contents resume_state ask link.socket r link2.socket resume_state2 → Keeps resume_state2 lane
  asked-up contents ask link link2 lane resume_state resume_state2 (Ok done) h (room, c, sent) = moved (has_asked resume_state) resume_state2 lane lane refl c (numbered lane.trace resume_state h)
  asked-up contents ask link link2 lane resume_state resume_state2 (Err f) h (c, full, why) = moved (has_asked resume_state) resume_state2 lane lane refl c (numbered lane.trace resume_state h)

  pub asked : (contents : S → Option (List ℕ)) (ask : Ask) (s : _) (link link2 : LinkState S) (lane : Heard) (resume_state resume_state2 : Carried)
      (r : Result (Unit {0}) LinkFault) → CarriesPending resume_state lane.trace → AsksFor contents ask s link resume_state r link2 resume_state2 → CarriesPending resume_state2 lane.trace
  asked contents ask s link link2 lane resume_state resume_state2 r h t = go (asked-as contents ask s link link2 resume_state resume_state2 r t)
    where
      go : SendsAsk contents resume_state ask link.socket r link2.socket resume_state2 ⊎ (resume_state2 ≡ resume_state) → Keeps resume_state2 lane
      go (inl t) = asked-up contents ask link link2 lane resume_state resume_state2 r h t
      go (inr c) = moved resume_state resume_state2 lane lane refl c h

-- A lane that is given up

pub given_up : (lane lane2 : Heard) (resume_state : Carried) (r : Result Reply (Event × HearRefusal)) → CarriesPending resume_state lane.trace → Hears lane Down r lane2
    → CarriesPending resume_state lane2.trace
given_up lane lane2 resume_state (Ok reply) h (l, is, none) = moved resume_state resume_state (with_event lane Down) lane2 l refl (after-down lane.trace resume_state h)
given_up lane lane2 resume_state (Err back) h (l, is, refuses) = moved resume_state resume_state lane lane2 l refl h

-- A state that is new

pub fresh : (t : Trace) (resumable : Bool) (resume_state : Carried) → t ≡ [] → resume_state ≡ new_carried resumable → CarriesPending resume_state t
fresh t resumable resume_state e c =
    subst (λ (x : Carried). CarriesPending x t) (sym c) (subst (λ (y : Trace). CarriesPending (new_carried resumable) y) (sym e) (sessions_begin.0 resumable))

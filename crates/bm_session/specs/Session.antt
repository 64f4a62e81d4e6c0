-- A session, a plan to take an event, and a whole run.
use Rattle.std.specs.Prelude.{◌≡◌, ◌⊎◌, ℕ, ◌≤◌, true, List, [], ◌∷◌, ◌++◌, Option, Some, None}
use Rattle.bm_session.specs.declared.event.Event.{Event}
use Rattle.bm_session.specs.declared.event.Event.TheVariants.{Cut, Down}
use Rattle.bm_session.specs.declared.item.Item.{Item}
use Rattle.bm_session.specs.declared.refusal.Refusal.{Refusal}
use Rattle.bm_session.specs.declared.reply.Reply.{Reply}
use Rattle.bm_session.specs.declared.run.Ran.{Ran}
use Rattle.bm_session.specs.declared.run.Ran.TheVariants.{Done, Refused}
use Rattle.bm_session.specs.Trace.{Trace, is_up, is_cut, was_taken, refusal, reply, item}

-- a session: its trace, and for how many events more it has room
pub record SessionState : Type 0 where
  pub trace : List Event
  pub room : ℕ

-- Each event was taken. While the lane is up there is room for a Cut and the Down after it. While
-- it is cut there is room for its Down.
pub record IsSessionState (s : SessionState) : Type 0 where
  pub taken : was_taken s.trace ≡ true
  pub while_up : is_up s.trace ≡ true → 2 ≤ s.room
  pub while_cut : is_cut s.trace ≡ true → 1 ≤ s.room

-- a plan: its event, what will be sent, and the event's item unless that was taken
pub record Planned : Type 0 where
  pub event : Event
  pub sent : Reply
  pub given : Option Item

-- the room that an event asks for: its own, and that of a Cut and a Down that may follow
abbrev pub needed : Event → ℕ
needed Down = 1
needed Cut = 2
needed _ = 3

-- the plan is for this session as it is: the event is accepted, and the plan says what the trace
-- says. Another session than the one that made it may commit it without harm. The trace of that one
-- answers and accepts the event alike, and it has the room.
pub record IsPlanFor (s : SessionState) (p : Planned) : Type 0 where
  pub accepted : refusal s.trace p.event ≡ None
  pub answered : p.sent ≡ reply s.trace p.event
  pub itemized : (p.given ≡ item s.trace p.event) ⊎ (p.given ≡ None)
  pub room : needed p.event ≤ s.room

-- what comes of an event: its reply and its item, or its refusal
abbrev pub ran_as : Trace → Event → Option Refusal → Ran
ran_as t e None = Done (reply t e) (item t e)
ran_as t e (Some r) = Refused r

-- the trace after it: a refused event is passed over
abbrev pub trace_as : Trace → Event → Option Refusal → Trace
trace_as t e None = t ++ e ∷ []
trace_as t e (Some r) = t

-- what comes of each of these events, one after the other
abbrev pub ran_after : Trace → List Event → List Ran
ran_after t [] = []
ran_after t (e ∷ es) = ran_as t e (refusal t e) ∷ ran_after (trace_as t e (refusal t e)) es

-- the trace after all of them
abbrev pub trace_after : Trace → List Event → Trace
trace_after t [] = t
trace_after t (e ∷ es) = trace_after (trace_as t e (refusal t e)) es

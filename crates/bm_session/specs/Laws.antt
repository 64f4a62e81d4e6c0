-- Laws of traces.
use Rattle.std.specs.Prelude.{◌≡◌, ◌<◌, ◌^◌, not, List, [], ◌∷◌, ◌++◌, filter, None, if◌then◌else◌}
use Rattle.bm_value.specs.Tree.{Tree}
use Rattle.bm_session.specs.Events.{is_order, is_answer_to}
use Rattle.bm_session.specs.Heard.{IsEvent, IsNumbered}
use Rattle.bm_session.specs.declared.event.Event.{Event}
use Rattle.bm_session.specs.declared.reply.Reply.{Reply}
use Rattle.bm_session.specs.declared.reply.Reply.TheVariants.{Start, Interrupt}
use Rattle.bm_session.specs.Trace.{Trace, Moment, orders, begins_session, pending, refusal, reply}

-- an order's number and its command are below 2^63
abbrev pub IsSmallOrder : Reply → Type 0
IsSmallOrder (Start n k) = (n < 2 ^ 63) × (k < 2 ^ 63)
IsSmallOrder (Interrupt n k) = (n < 2 ^ 63) × (k < 2 ^ 63)
IsSmallOrder _ = Unit {0}

-- so is each order that is taken
abbrev pub OrdersAreSmall : Type 0
OrdersAreSmall = (t : Trace) (e : Event) → refusal t e ≡ None → IsSmallOrder (reply t e)

-- the event of a message is a request or a response with a number below 2^63
abbrev pub EventsAreNumbered : Type 0
EventsAreNumbered = (t : Tree) (e : Event) → IsEvent t e → IsNumbered e

-- the place of an event that comes next
abbrev pub next_place : Trace → Event → Moment
next_place t e = record { past = t; event = e }

-- The orders without an answer where the event comes next. There are none where a session begins.
-- Else they are those that it doesn't answer, and the event itself where it is an order.
abbrev pub pending_after : Trace → Event → List Moment
pending_after t e =
    if begins_session (next_place t e) then []
    else filter (λ m. not (is_answer_to (orders m.past) e)) (pending t)
    ++ (if is_order e then next_place t e ∷ [] else [])

abbrev pub PendingFollows : Type 0
PendingFollows = (t : Trace) (e : Event) → pending (t ++ e ∷ []) ≡ pending_after t e

-- Laws of what a lane carries from one link to the next.
use Rattle.std.specs.Prelude.{◌≡◌, ℕ, Bool, true, false, List, [], ◌∷◌, ◌++◌, map, Option}
use Rattle.bm_session.specs.Events.{is_order}
use Rattle.bm_session.specs.Laws.{next_place}
use Rattle.bm_session.specs.Trace.{Trace, Moment, orders, begins_session, pending}
use Rattle.bm_session.specs.declared.event.Event.{Event}
use Rattle.bm_work.specs.declared.sent.Sent.{Sent}
use Rattle.bm_link.specs.Carries.{Carried, carried_after, with_order, new_carried, begun}

-- what is carried are the orders of the trace that have no answer, in order, by their numbers
abbrev pub CarriesPending : Carried → Trace → Type 0
CarriesPending carry t =
    map (λ (o : Sent). o.seq) carry.orders ≡ map (λ (m : Moment). orders m.past) (pending t)

-- an event that is no order and begins no session
abbrev pub WorkersEventsKeep : Type 0
WorkersEventsKeep =
    (t : Trace) (carry : Carried) (e : Event) → is_order e ≡ false
    → begins_session (next_place t e) ≡ false
    → CarriesPending carry t → CarriesPending (carried_after carry e) (t ++ e ∷ [])

-- an order, with the number that it gets
abbrev pub OrdersAreAdded : Type 0
OrdersAreAdded =
    (t : Trace) (carry : Carried) (e : Event) (bytes : List ℕ) → is_order e ≡ true
    → CarriesPending carry t
    → CarriesPending (with_order carry (record { seq = orders t; bytes = bytes })) (t ++ e ∷ [])

-- nothing is pending before a first session, and where a session begins
abbrev pub SessionsBeginAnew : Type 0
SessionsBeginAnew =
    ((resumable : Bool) → CarriesPending (new_carried resumable) [])
    × ((t : Trace) (carry : Carried) (e : Event) (named : Option (List ℕ))
    → begins_session (next_place t e) ≡ true
    → CarriesPending (begun carry named) (t ++ e ∷ []))

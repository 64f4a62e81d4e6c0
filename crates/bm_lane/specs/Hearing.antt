-- What comes of an event at a reader's end.
use Rattle.std.specs.Prelude.{◌≡◌, ◌≢◌, ◌⊎◌, ◌≤◌, ◌∷◌, ◌++◌, [], length, Some, None, Result, Ok, Err}
use Rattle.bm_session.specs.declared.event.Event.{Event}
use Rattle.bm_session.specs.declared.refusal.Refusal.TheVariants.{Mem}
use Rattle.bm_session.specs.declared.reply.Reply.{Reply}
use Rattle.bm_session.specs.Trace.{refusal, reply, item, items}
use Rattle.bm_lane.specs.declared.refusals.HearRefusal.{HearRefusal}
use Rattle.bm_lane.specs.declared.refusals.HearRefusal.TheVariants.{Session, Busy}
use Rattle.bm_lane.specs.Ends.{Heard}

-- Why the event is not taken. Session: the trace refuses it, or memory is wanting. Busy: it would
-- give an item, and the queue has been given all that it takes at once.
abbrev pub Refuses : Heard → Event → HearRefusal → Type 0
Refuses h e (Session why) =
    (refusal h.trace e ≡ Some why) ⊎ ((refusal h.trace e ≡ None) × (why ≡ Mem))
Refuses h e Busy =
    (refusal h.trace e ≡ None) × (item h.trace e ≢ None) × (h.capacity ≤ length h.put)

-- the trace itself refuses the event: neither memory nor the queue is the reason
abbrev pub TraceRefuses : Heard → Event → HearRefusal → Type 0
TraceRefuses h e (Session why) = refusal h.trace e ≡ Some why
TraceRefuses h e Busy = ⊥

-- the end with an event more, whose item, if it gives one, was put
abbrev pub with_event : Heard → Event → Heard
with_event h e = record h { trace = h.trace ++ e ∷ []; put = items (h.trace ++ e ∷ []) }

-- the event was taken and answered; or it comes back with the reason, and nothing changed
abbrev pub Hears : Heard → Event → Result Reply (Event × HearRefusal) → Heard → Type 0
Hears old e (Ok r) new =
    (new ≡ with_event old e) × (r ≡ reply old.trace e) × (refusal old.trace e ≡ None)
Hears old e (Err back) new = (new ≡ old) × (back.0 ≡ e) × Refuses old e back.1

-- Laws of what a fault leaves behind it.
use Rattle.std.specs.Prelude.{◌≡◌, ◌≢◌, ◌⊎◌, ℕ, true, List, Option, Some, None, Err}
use Rattle.tungstenite.specs.Connection.{write_step}
use Rattle.tungstenite.specs.Content.{binary}
use Rattle.tungstenite.specs.Socket.{Socket, Writes}
use Rattle.bm_msg.specs.Trees.{answer_bytes}
use Rattle.bm_session.specs.declared.event.Event.{Event}
use Rattle.bm_session.specs.declared.event.Event.TheVariants.{Cut}
use Rattle.bm_session.specs.declared.refusal.Refusal.{Refusal}
use Rattle.bm_session.specs.declared.refusal.Refusal.TheVariants.{Mem, Full}
use Rattle.bm_session.specs.declared.reply.Reply.TheVariants.{Answer}
use Rattle.bm_session.specs.declared.reply.Verdict.{Verdict}
use Rattle.bm_session.specs.Texts.{exception_text}
use Rattle.bm_session.specs.Trace.{refusal, reply}
use Rattle.bm_lane.specs.Ends.{Heard}
use Rattle.bm_lane.specs.Hearing.{with_event}
use Rattle.bm_lane.specs.declared.refusals.HearRefusal.{HearRefusal}
use Rattle.bm_lane.specs.declared.refusals.HearRefusal.TheVariants.{Session}
use Rattle.bm_link.specs.declared.fault.LinkFault.{LinkFault}
use Rattle.bm_link.specs.declared.fault.LinkFault.TheVariants.{Lane}
use Rattle.bm_link.specs.declared.ending.Ended.{Ended}
use Rattle.bm_link.specs.declared.ending.Ended.TheVariants as ended
use Rattle.bm_link.specs.Carries.{Carried}
use Rattle.bm_link.specs.Endings.{Ends}
use Rattle.bm_link.specs.Parts.{Declines, Takes}
use Rattle.bm_link.specs.Telling.{Tells}

-- where the lane may be cut and its trace takes a Cut, it is cut
abbrev pub CutsWhereAllowed : Type 0
CutsWhereAllowed =
    (lane lane2 : Heard) (e : Ended) → Ends true lane lane2 e → refusal lane.trace Cut ≡ None
    → (e ≡ ended.Cut) × (lane2 ≡ with_event lane Cut)

-- A link that fails for its lane tells what the lane's trace refuses. That is neither want of
-- memory nor that the lane is full, and never that it is busy.
abbrev pub LaneRefusesByItsTrace : Type 0
LaneRefusesByItsTrace =
    (lane : Heard) (e : Event) (why : HearRefusal) → Declines lane e (Lane why)
    → (r : Refusal) × (why ≡ Session r) × (refusal lane.trace e ≡ Some r) × (r ≢ Mem) × (r ≢ Full)

module _ {S : Type 0} where
  -- some of the frame of these bytes has left, or all of it
  abbrev pub Leaves : (S → Option (List ℕ)) → List ℕ → Socket S → Socket S → Type 0
  Leaves contents bytes old new = Writes contents old new (write_step old.conn (binary bytes))

  -- after an event for which the link fails nothing has left but of the answer to it, where the
  -- lane took it
  abbrev pub AnswersOnlyWhatWasTaken : (S → Option (List ℕ)) → Type 0
  AnswersOnlyWhatWasTaken contents =
      (old new : Socket S) (lane lane2 : Heard) (carry carry2 : Carried) (e : Event) (f : LinkFault)
      → Takes contents old lane carry e (Err f) new lane2 carry2
      → (new ≡ old)
      ⊎ ((n : ℕ) × (v : Verdict) × (lane2 ≡ with_event lane e) × (reply lane.trace e ≡ Answer n v)
      × Leaves contents (answer_bytes n (exception_text v)) old new)

  -- the worker whose login is refused is told that by this exception, or nothing
  abbrev pub TellsOnlyTheRefusal : (S → Option (List ℕ)) → Type 0
  TellsOnlyTheRefusal contents =
      (n : ℕ) (text : List ℕ) (old new : Socket S) → Tells contents n text old new
      → (new ≡ old) ⊎ Leaves contents (answer_bytes n (Some text)) old new

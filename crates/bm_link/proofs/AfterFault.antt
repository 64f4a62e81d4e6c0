-- What a fault leaves behind it.
use Rattle.std.proofs.Common.{◌≡◌, inl, inr, List, ℕ, Option, None}
use Rattle.bm_session.specs.declared.event.Event.TheVariants.{Cut}
use Rattle.bm_session.specs.declared.refusal.Refusal.TheVariants.{Full, Mem}
use Rattle.bm_lane.specs.Ends.{Heard}
use Rattle.bm_lane.specs.Hearing.{TraceRefuses}
use Rattle.bm_lane.specs.declared.refusals.HearRefusal.{HearRefusal}
use Rattle.bm_lane.specs.declared.refusals.HearRefusal.TheVariants.{Session, Busy}
use Rattle.bm_session.specs.Trace.{refusal}
use Rattle.bm_link.specs.LawsOfFaults.{AnswersOnlyWhatWasTaken, CutsWhereAllowed, LaneRefusesByItsTrace, TellsOnlyTheRefusal}

cut-refused : (lane : Heard) (why : HearRefusal) → refusal lane.trace Cut ≡ None → TraceRefuses lane Cut why → ⊥
cut-refused lane (Session r) none h = cc
cut-refused lane Busy none h = h

pub is_cut : CutsWhereAllowed
is_cut lane lane2 e (inl (may, cut, taken)) none = (cut, taken)
is_cut lane lane2 e (inr (inl never, falls)) none = absurd (cc)
is_cut lane lane2 e (inr (inr (why, h), falls)) none = absurd (cut-refused lane why none h)

pub by_its_trace : LaneRefusesByItsTrace
by_its_trace lane e why (Mem, h, is) = absurd (cc)
by_its_trace lane e why (Full, h, is) = absurd (cc)
by_its_trace lane e why (r, inr (none, mem), is) = absurd (cc)
by_its_trace lane e why (r, inl h, is) = (r, (cc), h, (λ m. cc), (λ m. cc))

module _ {S : Type 0} (contents : S → Option (List ℕ)) where
  pub answers_taken : AnswersOnlyWhatWasTaken contents
  answers_taken old new lane lane2 carry carry2 e f (inl (stays, same, declines)) = inl same
  answers_taken old new lane lane2 carry carry2 e f (inr (took, (n, v, asks, inl (same, why)))) = inl same
  answers_taken old new lane lane2 carry carry2 e f (inr (took, (n, v, asks, inr (stream, leaves)))) = inr (n, v, took.0, asks, leaves)

  pub tells_that : TellsOnlyTheRefusal contents
  tells_that n text old new (inl sent) = inr sent.0
  tells_that n text old new (inr (f, inl (same, why))) = inl same
  tells_that n text old new (inr (f, inr (stream, leaves))) = inr leaves

use Rattle.std.proofs.Common.{refl, inl, inr}
use Rattle.bm_link.proofs.received.hear_bytes.Goals as goal

-- the bytes say nothing
pub returns-in-Err : goal.returns-in-Err
returns-in-Err c = (
  inl (elim c.in-Err.ensures.fault [
    | inl bad ↦ inl (bad, c.in-Err.ensures.bad bad)
    | inr other ↦ inr other
  ]),
  refl,
)

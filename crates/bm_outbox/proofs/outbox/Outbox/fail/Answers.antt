use Rattle.bm_outbox.proofs.Queue.{fails}
use Rattle.bm_outbox.proofs.outbox.Outbox.fail.Goals as goal

-- the line waits, and the end behind it
pub returns : goal.returns
returns c = fails _ _ c.in_ok-said.said _ _ _ c.in_ok-said.ensures.letter c.in_ok-said.ensures.text c.in_ok-push.ensures.ok c.in_ok-push-2.ensures.ok

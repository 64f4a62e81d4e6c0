use Rattle.bm_outbox.proofs.Queue.{closes_held}
use Rattle.bm_outbox.proofs.outbox.Outbox.close_held.Goals as goal

-- the line that says so waits, and behind it all that closes the command
pub returns : goal.returns
returns c = closes_held _ _ c.in_ok-held_text.field-0 _ _ _ c.command.ensures c.in_ok-held_text.ensures.letter c.in_ok-held_text.ensures.text c.in_ok-push.ensures.ok c.in_ok-close.ensures

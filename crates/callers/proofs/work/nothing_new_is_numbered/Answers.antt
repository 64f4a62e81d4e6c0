use Rattle.callers.proofs.WorkNumbers.{copies_numbered}
use Rattle.callers.proofs.work.nothing_new_is_numbered.Goals as goal

pub returns : goal.returns
returns c = copies_numbered _ _ c.resend.ensures.unanswered

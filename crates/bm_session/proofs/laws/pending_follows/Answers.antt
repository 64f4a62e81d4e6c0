use Rattle.bm_session.proofs.Words.{pending-push}
use Rattle.bm_session.proofs.laws.pending_follows.Goals as goal

pub returns : goal.returns
returns c = pending-push

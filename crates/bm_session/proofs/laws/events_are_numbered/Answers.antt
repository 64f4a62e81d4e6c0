use Rattle.bm_session.proofs.Events.{numbered}
use Rattle.bm_session.proofs.laws.events_are_numbered.Goals as goal

pub returns : goal.returns
returns c = numbered

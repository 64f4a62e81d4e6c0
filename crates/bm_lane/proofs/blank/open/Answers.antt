use Rattle.bm_lane.proofs.Relays.{begins}
use Rattle.bm_lane.proofs.blank.open.Goals as goal

pub ruled-requires-clause-rule : goal.ruled-requires-clause-rule
ruled-requires-clause-rule g c = begins

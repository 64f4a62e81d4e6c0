use Rattle.bm_worker_session.proofs.Keeping.{tells_keep}
use Rattle.bm_worker_session.proofs.Steps.{begins, begins_anew, hears, sends}
use Rattle.bm_worker_session.proofs.laws.sent_requests_are_the_stream.Goals as goal

pub returns-clause-begins : goal.returns-clause-begins
returns-clause-begins g c = begins g.S.Write.contents

pub returns-clause-anew : goal.returns-clause-anew
returns-clause-anew g c = begins_anew g.S.Write.contents

pub returns-clause-sends : goal.returns-clause-sends
returns-clause-sends g c = sends g.S.Write.contents

pub returns-clause-hears : goal.returns-clause-hears
returns-clause-hears g c = hears g.S.Read.remaining g.S.Write.contents

pub returns-clause-kept : goal.returns-clause-kept
returns-clause-kept g c = tells_keep

use Rattle.bm_link.proofs.AfterFault.{answers_taken, by_its_trace, is_cut, tells_that}
use Rattle.bm_link.proofs.laws.faults_leave_no_more.Goals as goal

pub returns-clause-answers : goal.returns-clause-answers
returns-clause-answers g c = answers_taken g.S.Write.contents

pub returns-clause-refusals : goal.returns-clause-refusals
returns-clause-refusals g c = tells_that g.S.Write.contents

pub returns-clause-lanes : goal.returns-clause-lanes
returns-clause-lanes g c = by_its_trace

pub returns-clause-cuts : goal.returns-clause-cuts
returns-clause-cuts g c = is_cut

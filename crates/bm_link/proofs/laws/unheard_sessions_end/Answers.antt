use Rattle.bm_link.proofs.Meeting.{answers_new, new_is_another, stays_another, unsent_is_another}
use Rattle.bm_link.proofs.laws.unheard_sessions_end.Goals as goal

pub returns-clause-new : goal.returns-clause-new
returns-clause-new g c = new_is_another g.S.Write.contents

pub returns-clause-unsent : goal.returns-clause-unsent
returns-clause-unsent g c = unsent_is_another g.S.Write.contents

pub returns-clause-stays : goal.returns-clause-stays
returns-clause-stays g c = stays_another g.S.Write.contents

pub returns-clause-answers : goal.returns-clause-answers
returns-clause-answers g c = answers_new g.S.Write.contents

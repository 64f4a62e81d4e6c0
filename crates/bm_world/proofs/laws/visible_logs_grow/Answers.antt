use Rattle.bm_session.proofs.Visible.{visible_logs_grow, drained_logs_are_whole}
use Rattle.bm_world.proofs.laws.visible_logs_grow.Goals as goal

pub returns-clause-grows : goal.returns-clause-grows
returns-clause-grows c = visible_logs_grow

pub returns-clause-whole : goal.returns-clause-whole
returns-clause-whole c = drained_logs_are_whole

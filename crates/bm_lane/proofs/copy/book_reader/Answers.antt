use Rattle.bm_lane.proofs.Grows.{admits, tells, learns}
use Rattle.bm_lane.proofs.copy.book_reader.Goals as goal

pub reader-requires : goal.reader-requires
reader-requires c = admits

pub tell-requires : goal.tell-requires
tell-requires c = tells _ _

pub learn-requires-clause-rule : goal.learn-requires-clause-rule
learn-requires-clause-rule c = learns _ _ _ _

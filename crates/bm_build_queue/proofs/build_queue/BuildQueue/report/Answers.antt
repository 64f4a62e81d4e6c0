use Rattle.std.proofs.Common.{ap}
use Rattle.bm_build_queue.specs.BuildQueue.{QueueState}
use Rattle.bm_build_queue.proofs.Holding.{held}
use Rattle.bm_build_queue.proofs.Wholes.{reported, whole_stepped}
use Rattle.bm_build_queue.proofs.build_queue.BuildQueue.report.Goals as goal

pub invariant_of-self : goal.invariant_of-self
invariant_of-self g c = whole_stepped _ _ c.args.number c.args.reported c.step_done.ensures.board c.self.invariant

pub returns-clause-reported : goal.returns-clause-reported
returns-clause-reported g c = reported _ _ _ c.args.number c.args.reported (ap (λ (q : QueueState). q.board) c.self.view_is) c.step_done.ensures.board c.self.invariant

pub returns-clause-held : goal.returns-clause-held
returns-clause-held g c = held _ _ _ c.args.number c.args.reported (ap (λ (q : QueueState). q.board) c.self.view_is) c.step_done.ensures.board

use Rattle.std.proofs.Common.{inr, subst}
use Rattle.bm_build_queue.specs.BuildQueue.{CanStart, QueueState}
use Rattle.bm_build_queue.proofs.Wholes.{can_start_by, whole_started}
use Rattle.bm_build_queue.proofs.build_queue.BuildQueue.start.Goals as goal

pub invariant_of-self : goal.invariant_of-self
invariant_of-self g c = whole_started _ _ c.args.number c.in-Ok.ensures.board c.self.invariant

pub returns-in-Err-Mem-clause-short : goal.returns-in-Err-Mem-clause-short
returns-in-Err-Mem-clause-short g c =
    λ _. inr (subst (λ (q : QueueState). CanStart q.board) c.self.view_is (can_start_by _ c.args.number _ c.in-Err-Mem.field-0-is c.in-Err-Mem.ensures.refused))

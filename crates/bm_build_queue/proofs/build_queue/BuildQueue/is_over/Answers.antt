use Rattle.std.proofs.Common.{rules, ◌∙◌, ap, length, arith}
use Rattle.bm_build_queue.specs.BuildQueue.{QueueState}
use Rattle.bm_build_queue.proofs.Pools.{over}
use Rattle.bm_build_queue.proofs.Below.{below_more}
use Rattle.bm_build_queue.proofs.build_queue.BuildQueue.is_over.Goals as goal

pub loop-number-preserved : goal.loop-number-preserved
loop-number-preserved g c = below_more _ c.loop-number.number c.loop-number.invariant (search rules)

pub returns-clause-over : goal.returns-clause-over
returns-clause-over g c =
    let all = c.builds-number-end.ensures ∙ ap (λ (q : QueueState). length q.board.jobs) c.self.view_is in
    λ _. over c.args.self.now.board c.loop-number.number (omega (arith, all, c.loop-number-test.false)) c.loop-number.invariant

use Rattle.std.proofs.Common.{◌∙◌, ap, length, arith}
use Rattle.bm_build_queue.specs.BuildQueue.{QueueState}
use Rattle.bm_build_queue.proofs.Starts.{can_start_low, searched_more}
use Rattle.bm_build_queue.proofs.build_queue.BuildQueue.next.Goals as goal

pub loop-number-preserved : goal.loop-number-preserved
loop-number-preserved g c =
    searched_more c.args.self.now c.loop-number.self c.start.new.self c.loop-number.number c.loop-number.invariant
    c.in_default.ensures.unchanged c.in_default.ensures.left c.start.ensures.still c.start.ensures.short

pub returns-clause-none : goal.returns-clause-none
returns-clause-none g c =
    let all = c.builds-number-end.ensures ∙ ap (λ (q : QueueState). length q.board.jobs) c.self.view_is in
    λ k h. c.loop-number.invariant.3 k (omega (arith, all, c.loop-number-test.false, can_start_low c.args.self.now k h)) h

use Rattle.std.proofs.Common.{◌≡◌, ◌++◌, ◌∷◌, [], ◌∙◌, ap, length, true, arith, rules}
use Rattle.std.proofs.lemmas.Bool.{lt-ltb}
use Rattle.bm_board.specs.ScheduledBuild.{BuildState}
use Rattle.bm_board.specs.Locks.{are_good}
use Rattle.bm_board.proofs.Counting.{counted_added}
use Rattle.bm_board.proofs.board.Board.add_build.Goals as goal

pub invariant_of-self : goal.invariant_of-self
invariant_of-self c =
    let b = c.self.inside in
    let good : are_good (length b.maxima.items) c.args.build.locks ≡ true = search rules in
    counted_added _ _ _ c.args.build _
    (c.in-Ok.ensures.items ∙ ap (λ (j : BuildState). b.jobs.items ++ j ∷ []) c.new-job.ensures)
    (lt-ltb c.args.build.worker (length b.workers.items) (omega arith))
    good
    (omega arith)
    c.add_waiting.ensures.held c.add_waiting.ensures.more c.self.invariant

use Rattle.std.proofs.Common.{◌∙◌, ap, sym, arith}
use Rattle.bm_board.specs.ScheduledBuild.{BuildState, release, answer_of, job_after}
use Rattle.bm_board.proofs.Places.{same_place, answer_place, after_place}
use Rattle.bm_board.proofs.Counting.{counted_released}
use Rattle.bm_board.proofs.board.Board.release.Goals as goal

pub invariant_of-self : goal.invariant_of-self
invariant_of-self c =
    let job = c.index_mut.result.now in
    let same = same_place c.self.inside.jobs.items c.args.id c.index-job.result.now job (omega arith) c.index-job.ensures c.index_mut.ensures.value in
    counted_released _ _ _ c.args.id job _ c.build.result.now (omega arith) c.index_mut.ensures.value
    (record { build = c.release.ensures.build; before = c.release.ensures.before; now = c.release.ensures.after })
    c.release.ensures.waits (c.build.ensures ∙ ap (λ (j : BuildState). j.build) same) c.give.ensures.held c.give.ensures.waiting c.self.invariant

pub returns-clause-answer : goal.returns-clause-answer
returns-clause-answer c =
    ap answer_of (sym c.release.ensures.job) ∙ answer_place release _ _ c.args.id c.index_mut.result.now c.self.view_is (omega arith) c.index_mut.ensures.value

pub returns-clause-board : goal.returns-clause-board
returns-clause-board c =
    after_place release _ _ c.args.id c.index_mut.result.now _ c.self.view_is (omega arith) c.index_mut.ensures.value (sym (ap (job_after c.index_mut.result.now) c.release.ensures.job))

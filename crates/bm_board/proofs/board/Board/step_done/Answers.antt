use Rattle.std.proofs.Common.{◌∙◌, arith}
use Rattle.bm_board.specs.ScheduledBuild.{finish}
use Rattle.bm_board.proofs.Places.{answer_place, after_place}
use Rattle.bm_board.proofs.Counting.{counted_same}
use Rattle.bm_board.proofs.board.Board.step_done.Goals as goal

pub invariant_of-self : goal.invariant_of-self
invariant_of-self c =
    counted_same _ _ c.args.id c.index_mut.result.now _ (omega arith) c.index_mut.ensures.value c.finish.ensures.holder c.finish.ensures.waits c.self.invariant

pub returns-clause-answer : goal.returns-clause-answer
returns-clause-answer c =
    c.finish.ensures.answer ∙ answer_place (finish c.args.outcome) _ _ c.args.id c.index_mut.result.now c.self.view_is (omega arith) c.index_mut.ensures.value

pub returns-clause-board : goal.returns-clause-board
returns-clause-board c =
    after_place (finish c.args.outcome) _ _ c.args.id c.index_mut.result.now _ c.self.view_is (omega arith) c.index_mut.ensures.value c.finish.ensures.job

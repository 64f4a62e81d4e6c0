use Rattle.std.proofs.Common.{◌≡◌, false, sym, ◌∙◌, arith}
use Rattle.bm_board.specs.ScheduledBuild.{cancel, is_waiting}
use Rattle.bm_board.proofs.Places.{answer_place, after_place}
use Rattle.bm_board.proofs.Counting.{counted_ended, counted_same}
use Rattle.bm_board.proofs.board.Board.cancel.Goals as goal

pub invariant_of-self : goal.invariant_of-self
invariant_of-self c =
    counted_ended _ _ _ c.args.id c.index_mut-job.result.now _ c.build.result.now (omega arith) c.index_mut-job.ensures.value c.cancel-answer.ensures.holder
    (sym c.is_waiting-waited.ensures ∙ c.if-waited.true) c.cancel-answer.ensures.waits c.build.ensures
    (record { held = c.remove_waiting.ensures.held; fewer = c.remove_waiting.ensures.fewer }) c.self.invariant

pub invariant_of-self-else-waited : goal.invariant_of-self-else-waited
invariant_of-self-else-waited c =
    let waited : is_waiting c.index_mut-job.result.now.phase ≡ false = sym c.is_waiting-waited.ensures ∙ c.if-waited.false in
    counted_same _ _ c.args.id c.index_mut-job.result.now _ (omega arith) c.index_mut-job.ensures.value c.cancel-answer.ensures.holder
    (c.cancel-answer.ensures.waits ∙ sym waited) c.self.invariant

pub returns-then-waited-clause-answer : goal.returns-then-waited-clause-answer
returns-then-waited-clause-answer c =
    c.cancel-answer.ensures.answer ∙ answer_place cancel _ _ c.args.id c.index_mut-job.result.now c.self.view_is (omega arith) c.index_mut-job.ensures.value

pub returns-then-waited-clause-board : goal.returns-then-waited-clause-board
returns-then-waited-clause-board c =
    after_place cancel _ _ c.args.id c.index_mut-job.result.now _ c.self.view_is (omega arith) c.index_mut-job.ensures.value c.cancel-answer.ensures.job

pub returns-else-waited-clause-answer : goal.returns-else-waited-clause-answer
returns-else-waited-clause-answer c =
    c.cancel-answer.ensures.answer ∙ answer_place cancel _ _ c.args.id c.index_mut-job.result.now c.self.view_is (omega arith) c.index_mut-job.ensures.value

pub returns-else-waited-clause-board : goal.returns-else-waited-clause-board
returns-else-waited-clause-board c =
    after_place cancel _ _ c.args.id c.index_mut-job.result.now _ c.self.view_is (omega arith) c.index_mut-job.ensures.value c.cancel-answer.ensures.job

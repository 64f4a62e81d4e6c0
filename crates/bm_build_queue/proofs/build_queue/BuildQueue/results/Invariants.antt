use Rattle.std.proofs.Common.{◌≡◌, ℕ, length, Some, Ok}
use Rattle.std.specs.List.{slice_get}
use Rattle.bm_session.specs.declared.results.Results.{Results}
use Rattle.bm_board.specs.Board.{result_on}
use Rattle.bm_build_queue.proofs.build_queue.BuildQueue.results.Given as goal

abbrev pub invariant-loop-number : goal.invariant-loop-number
invariant-loop-number g l =
    (length l.all.items ≡ l.number)
    × ((n : ℕ) (r : Results) → slice_get l.all.items n ≡ Some r → result_on l.fn.self.board n ≡ Ok (Some r))

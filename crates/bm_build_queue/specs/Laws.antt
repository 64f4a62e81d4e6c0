-- What holds of every board of a build queue.
use Rattle.std.specs.Prelude.{◌≡◌, ℕ, Some, Ok}
use Rattle.bm_session.specs.declared.results.Results.{Results}
use Rattle.bm_board.specs.Board.{BoardState, board_after, on_build, start, result_on}
use Rattle.bm_build_queue.specs.BuildQueue.{after_step, after_release, after_cancel, after_giving_up}

-- build n has this result still, whatever happens to build m
pub record StaysThrough (b : BoardState) (n m : ℕ) (r : Results) : Type 0 where
  pub start : result_on (board_after b m (on_build (start b) b m)) n ≡ Ok (Some r)
  pub report : (x : Results) → result_on (after_step b m x) n ≡ Ok (Some r)
  pub release : result_on (after_release b m) n ≡ Ok (Some r)
  pub cancel : result_on (after_cancel b m) n ≡ Ok (Some r)
  pub give_up : result_on (after_giving_up b m) n ≡ Ok (Some r)

-- a build has one result, which nothing takes from it or changes
abbrev pub ResultsStay : Type 0
ResultsStay =
    (b : BoardState) (n m : ℕ) (r : Results) → result_on b n ≡ Ok (Some r) → StaysThrough b n m r

-- Each build on the board of a queue is one step.
use Rattle.std.specs.Prelude.{◌≡◌, true, All, [], ◌∷◌, length}
use Rattle.bm_board.specs.ScheduledBuild.{BuildState, is_sound}
use Rattle.bm_board.specs.Board.{BoardState}
use Rattle.bm_build_queue.specs.BuildQueue.{whole}

-- the build is one step, and where it runs it is at that step
pub record IsWhole (job : BuildState) : Type 0 where
  pub steps : job.build.steps ≡ whole ∷ []
  pub sound : is_sound job.phase 1 (length job.outcomes) ≡ true

-- each build of the board is
abbrev pub AreWhole : BoardState → Type 0
AreWhole b = All IsWhole b.jobs

-- With which board a master begins.
use Rattle.std.specs.Prelude.{List, map}
use Rattle.bm_board.specs.Board.{BoardState, opening}
use Rattle.bm_board.specs.ScheduledBuild.{waiting}
use Rattle.bm_board.specs.declared.plan.Build.{Build}
use Rattle.bm_build_queue.specs.BuildQueue.{on_board}
use Rattle.bm_config.specs.declared.config.LockConfig.{LockConfig}
use Rattle.bm_config.specs.declared.config.WorkerConfig.{WorkerConfig}
use Rattle.bm_lanes.specs.ConfigLists.{maxima, slots}

-- No worker is ready. Each build waits, by its number.
abbrev pub board_of : List WorkerConfig → List LockConfig → List Build → BoardState
board_of workers locks builds =
    record (opening (slots workers) (maxima locks)) {
      jobs = map (λ build. waiting (on_board build)) builds;
    }

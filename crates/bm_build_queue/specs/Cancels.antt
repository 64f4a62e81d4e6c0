-- What a build queue says of a cancel.
use Rattle.std.specs.Prelude.{Bool, true, false, Result, Ok, Err}
use Rattle.bm_board.specs.declared.refusal.BoardRefusal.{BoardRefusal}
use Rattle.bm_build_queue.specs.declared.build_queue.Cancelled.{Cancelled}
use Rattle.bm_build_queue.specs.declared.build_queue.Cancelled.TheVariants.{Waiting, Running, Nothing}

-- what a cancel met, by the board's answer
abbrev pub met_by : Result Bool BoardRefusal → Cancelled
met_by (Ok true) = Running
met_by (Ok false) = Waiting
met_by (Err why) = Nothing

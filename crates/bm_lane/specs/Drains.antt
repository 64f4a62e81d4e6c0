-- What a drain does.
use Rattle.std.specs.Prelude.{◌≡◌, [], Result, Ok, Err}
use Rattle.std.specs.declared.alloc.AllocError.{AllocError}
use Rattle.bm_lane.specs.declared.writer_end.Drained.{Drained}
use Rattle.bm_lane.specs.declared.writer_end.Drained.TheVariants.{Took, Empty}
use Rattle.bm_lane.specs.Ends.{Written, ShowsOne, HoldsOne}

-- one item was shown; or there was none; or memory was wanting
abbrev pub Drains : Written → Written → Result Drained AllocError → Type 0
Drains old new (Ok Took) = ShowsOne old new
Drains old new (Ok Empty) = (old.held ≡ []) × (new ≡ old)
Drains old new (Err e) = HoldsOne old new

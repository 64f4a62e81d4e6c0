-- What the drains of a pool's worker come to.
use Rattle.std.specs.Prelude.{ℕ, ◌+◌, Result, Ok, Err}
use Rattle.std.specs.declared.alloc.AllocError.{AllocError}
use Rattle.bm_lane.specs.declared.pool.Tally.{Tally}
use Rattle.bm_lane.specs.declared.writer_end.Drained.{Drained}
use Rattle.bm_lane.specs.declared.writer_end.Drained.TheVariants.{Took, Empty}

-- with one drain more: one that took an item or met want of memory is counted, one that found
-- nothing isn't
abbrev pub counted : Tally → Result Drained AllocError → Tally
counted t (Ok Took) = record t { took = t.took + 1 }
counted t (Ok Empty) = t
counted t (Err e) = record t { refused = t.refused + 1 }

-- how many drains were counted
abbrev pub drains : Tally → ℕ
drains t = t.took + t.refused

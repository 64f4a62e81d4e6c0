-- What the gate of a pool of writers answers.
use Rattle.std.specs.Prelude.{ℕ, Bool, true, false, nat_le, Result, Ok, Err}
use Rattle.std.specs.declared.alloc.AllocError.{AllocError}
use Rattle.bm_lane.specs.declared.writer_end.Drained.{Drained}
use Rattle.bm_lane.specs.declared.writer_end.Drained.TheVariants.{Empty, Took}
use Rattle.bm_lane.specs.declared.pool.Pass.{Pass}
use Rattle.bm_lane.specs.declared.pool.Pass.TheVariants.{Go, Skip, Stop}

-- a worker ends once the gate is stopped; else it goes for the lane that it claimed, and for no
-- other
abbrev pub pass_of : Bool → Bool → Pass
pass_of true claimed = Stop
pass_of false true = Go
pass_of false false = Skip

-- as many lanes in a row had nothing as there are
abbrev pub is_whole_round : ℕ → ℕ → Bool
is_whole_round idle lanes = nat_le lanes idle

-- after a drain that took an item, or met want of memory
abbrev pub may_have_more : Result Drained AllocError → Bool
may_have_more (Ok Took) = true
may_have_more (Ok Empty) = false
may_have_more (Err e) = true

use Rattle.std.proofs.Common.{ℕ, ◌<◌}
use Rattle.bm_build_queue.specs.BuildQueue.{HasResult}
use Rattle.bm_build_queue.proofs.build_queue.BuildQueue.is_over.Given as goal

abbrev pub invariant-loop-number : goal.invariant-loop-number
invariant-loop-number g l = (k : ℕ) → k < l.number → HasResult l.fn.self.board k

use Rattle.std.proofs.Common.{◌≤◌, length}
use Rattle.bm_worker_threads.proofs.spare_threads.spare_threads.Given as goal

-- as many at the most as were tried
abbrev pub invariant-loop : goal.invariant-loop
invariant-loop g l = length l.spare.items ≤ l.counter

abbrev pub invariant-loop-thread : goal.invariant-loop-thread
invariant-loop-thread g l = l.count ≤ 2

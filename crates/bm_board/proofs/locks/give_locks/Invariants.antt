use Rattle.std.proofs.Common.{length, take}
use Rattle.bm_board.proofs.LockCounts.{Exceeds}
use Rattle.bm_board.proofs.locks.give_locks.Given as goal

abbrev pub invariant-loop-u : goal.invariant-loop-u
invariant-loop-u l = Exceeds (length l.initial.counts) l.mode (take l.u-index l.uses) l.counts l.initial.counts

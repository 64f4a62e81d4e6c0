use Rattle.std.proofs.Common.{◌≡◌, drop}
use Rattle.bm_board.specs.Locks.{are_distinct}
use Rattle.bm_board.proofs.locks.are_distinct.Given as goal

abbrev pub invariant-loop-i : goal.invariant-loop-i
invariant-loop-i l = are_distinct l.uses ≡ are_distinct (drop l.i l.uses)

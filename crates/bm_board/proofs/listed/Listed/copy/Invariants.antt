use Rattle.std.proofs.Common.{◌≡◌, take}
use Rattle.bm_board.proofs.listed.Listed.copy.Given as goal

abbrev pub invariant-loop-item : goal.invariant-loop-item
invariant-loop-item g l = l.vec.items ≡ take l.item-index l.item-items

use Rattle.std.proofs.Common.{◌≡◌, false, map, take}
use Rattle.bm_board.proofs.board.Board.new.Given as goal

abbrev pub invariant-loop-n : goal.invariant-loop-n
invariant-loop-n l = l.workers.items ≡ map (λ n. record { slots = n; ready = false }) (take l.n-index l.slots)

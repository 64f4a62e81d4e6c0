use Rattle.std.proofs.Common.{◌≡◌, ℕ, ◌<◌, true}
use Rattle.bm_build_queue.specs.BuildQueue.{CanStart, can_start}
use Rattle.bm_build_queue.proofs.build_queue.BuildQueue.next.Given as goal

abbrev pub invariant-loop-number : goal.invariant-loop-number
invariant-loop-number g l =
    (l.self.board ≡ l.fn.self.board) × (l.self.pools ≡ l.fn.self.pools)
    × (l.self.is_short ≡ true → CanStart l.fn.self.board)
    × ((k : ℕ) → k < l.number → can_start l.fn.self k ≡ true → l.self.is_short ≡ true)

use Rattle.std.proofs.Common.{◌≡◌, length}
use Rattle.bm_coordinator.proofs.shared.cancels_of.Given as goal

-- one was made for each number before this one
abbrev pub invariant-loop-made : goal.invariant-loop-made
invariant-loop-made l = length l.cancels.items ≡ l.made

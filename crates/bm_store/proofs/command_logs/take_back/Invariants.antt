use Rattle.std.proofs.Common.{◌≡◌, ◌≤◌, length, take, true, List}
use Rattle.bm_store.specs.Kept.{Named, with_parts, have_blocks}
use Rattle.bm_store.proofs.command_logs.take_back.Given as goal

abbrev pub invariant-loop-left : goal.invariant-loop-left
invariant-loop-left l = record {
  inside : l.left ≤ length l.parts;
  taken : (base : List Named) → have_blocks base ≡ true → l.fn.logs.items ≡ with_parts l.parts base → l.logs.items ≡ with_parts (take l.left l.parts) base;
}

abbrev pub decreases-loop-left : goal.decreases-loop-left
decreases-loop-left l = l.left

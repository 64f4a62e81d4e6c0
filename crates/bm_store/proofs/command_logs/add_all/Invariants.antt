use Rattle.std.proofs.Common.{◌≡◌, take}
use Rattle.bm_store.specs.Kept.{with_parts}
use Rattle.bm_store.proofs.command_logs.add_all.Given as goal

abbrev pub invariant-loop-done : goal.invariant-loop-done
invariant-loop-done l = l.logs.items ≡ with_parts (take l.done l.parts) l.fn.logs.items

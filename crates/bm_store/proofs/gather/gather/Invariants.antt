use Rattle.std.proofs.Common.{length, ◌-◌}
use Rattle.std.specs.Prelude.{string_bytes}
use Rattle.bm_store.proofs.Gathering.{IsGathering}
use Rattle.bm_store.proofs.gather.gather.Given as goal

abbrev pub invariant-loop-at : goal.invariant-loop-at
invariant-loop-at l =
    IsGathering l.blocks l.fn.start l.at l.skip l.left 0 l.fn.skip l.fn.limit 0 (string_bytes l.out) (string_bytes l.fn.out)

abbrev pub decreases-loop-at : goal.decreases-loop-at
decreases-loop-at l = length l.blocks - l.at

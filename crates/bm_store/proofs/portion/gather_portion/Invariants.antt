use Rattle.std.proofs.Common.{length, ◌-◌, ◌≤◌, []}
use Rattle.std.specs.Prelude.{string_bytes}
use Rattle.bm_store.proofs.Gathering.{IsGathering}
use Rattle.bm_store.proofs.portion.gather_portion.Given as goal

abbrev pub invariant-loop-at : goal.invariant-loop-at
invariant-loop-at l = record {
  gathering : IsGathering l.blocks l.start l.at l.before l.left l.skip l.before-2 l.limit l.skip-2 (string_bytes l.content) [];
  short : length (string_bytes l.content) ≤ l.most;
}

abbrev pub decreases-loop-at : goal.decreases-loop-at
decreases-loop-at l = length l.blocks - l.at

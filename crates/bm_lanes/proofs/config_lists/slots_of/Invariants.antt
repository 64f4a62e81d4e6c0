use Rattle.std.proofs.Common.{◌≡◌, ◌≤◌, All, take}
use Rattle.bm_lanes.specs.ConfigLists.{slots}
use Rattle.bm_lanes.proofs.config_lists.slots_of.Given as goal

abbrev pub invariant-loop-worker : goal.invariant-loop-worker
invariant-loop-worker l = record {
  limits : All (λ n. (1 ≤ n) × (n ≤ 4)) l.slots.items;
  all : l.slots.items ≡ slots (take l.worker-index l.workers);
}

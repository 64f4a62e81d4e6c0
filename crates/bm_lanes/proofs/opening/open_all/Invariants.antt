use Rattle.std.proofs.Common.{◌≡◌, map, take}
use Rattle.bm_lanes.specs.ConfigLists.{capacities, viewer_counts}
use Rattle.bm_lanes.proofs.opening.open_all.Given as goal

abbrev pub invariant-loop-worker : goal.invariant-loop-worker
invariant-loop-worker g l = record {
  capacities : map (λ b. b.capacity) l.blanks.items ≡ capacities l.fn.capacity (take l.worker-index l.workers);
  viewers : map (λ b. b.viewers) l.blanks.items ≡ viewer_counts (take l.worker-index l.workers);
}

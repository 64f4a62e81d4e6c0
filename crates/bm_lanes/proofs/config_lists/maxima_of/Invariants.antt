use Rattle.std.proofs.Common.{◌≡◌, ◌≤◌, All, take}
use Rattle.bm_lanes.specs.ConfigLists.{maxima}
use Rattle.bm_lanes.proofs.config_lists.maxima_of.Given as goal

abbrev pub invariant-loop-lock : goal.invariant-loop-lock
invariant-loop-lock l = record {
  limits : All (λ n. 1 ≤ n) l.maxima.items;
  all : l.maxima.items ≡ maxima (take l.lock-index l.locks);
}

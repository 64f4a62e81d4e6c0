use Rattle.std.proofs.Common.{◌≡◌, take}
use Rattle.bm_lanes.specs.ConfigLists.{users}
use Rattle.bm_lanes.proofs.config_lists.users_of.Given as goal

abbrev pub invariant-loop-worker : goal.invariant-loop-worker
invariant-loop-worker l = l.users.items ≡ users (take l.worker-index l.workers)

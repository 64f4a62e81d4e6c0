use Rattle.std.proofs.Common.{◌≡◌, ◌≤◌, All, vec_len, vec_capacity}
use Rattle.bm_lane.proofs.pool.spawn_all.Given as goal

abbrev pub invariant-loop-worker : goal.invariant-loop-worker
invariant-loop-worker g l = record {
  started : vec_len l.workers ≡ l.worker;
  room : l.threads ≤ vec_capacity l.workers;
  turns : All (λ w. w.promise.turns ≡ l.turns) l.workers.items;
}

use Rattle.std.proofs.Common.{◌≡◌, ◌+◌, ◌*◌, ◌≤◌, All, vec_len}
use Rattle.bm_lane.proofs.pool.report.Given as goal

-- there is room for what each worker that was not joined yet may have counted
abbrev pub invariant-loop-worker : goal.invariant-loop-worker
invariant-loop-worker g l = record {
  turns : All (λ w. w.promise.turns ≡ l.turns) l.workers.items;
  sum : l.report.took + l.report.refused + vec_len l.workers * l.turns ≤ vec_len l.initial.workers * l.turns;
  took : l.report.took + 18446744073709551616 * vec_len l.workers ≤ 340282366920938463444927863358058659840;
  refused : l.report.refused + 18446744073709551616 * vec_len l.workers ≤ 340282366920938463444927863358058659840;
}

abbrev pub decreases-loop-worker : goal.decreases-loop-worker
decreases-loop-worker g l = vec_len l.workers

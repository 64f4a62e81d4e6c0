use Rattle.std.proofs.Common.{◌-◌, ◌≤◌, vec_len}
use Rattle.bm_lane_actor.proofs.drain_gate.worker_rounds.Given as goal

abbrev pub invariant-loop-rounds : goal.invariant-loop-rounds
invariant-loop-rounds l = vec_len l.rounds ≤ l.count

abbrev pub decreases-loop-rounds : goal.decreases-loop-rounds
decreases-loop-rounds l = l.count - vec_len l.rounds

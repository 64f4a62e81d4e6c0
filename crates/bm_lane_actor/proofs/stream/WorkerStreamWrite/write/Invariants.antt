use Rattle.std.proofs.Common.{◌≡◌, None}
use Rattle.bm_lane_actor.proofs.stream.WorkerStreamWrite.write.Given as goal

abbrev pub invariant-loop : goal.invariant-loop
invariant-loop g l = record {
  last : l.self.last_read ≡ l.fn.self.last_read;
  turn : l.self.times.turn_began ≡ None;
  login : l.self.times.login_ends ≡ l.fn.self.times.login_ends;
}

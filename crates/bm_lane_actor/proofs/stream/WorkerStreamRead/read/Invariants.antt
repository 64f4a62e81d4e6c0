use Rattle.std.proofs.Common.{◌≡◌}
use Rattle.bm_lane_actor.specs.declared.read_watch.LastRead.TheVariants.{NotMade}
use Rattle.bm_lane_actor.proofs.stream.WorkerStreamRead.read.Given as goal

abbrev pub invariant-loop : goal.invariant-loop
invariant-loop g l = record {
  last : l.self.last_read ≡ NotMade;
  writes : l.self.times.spent ≡ 0;
  login : l.self.times.login_ends ≡ l.fn.self.times.login_ends;
}

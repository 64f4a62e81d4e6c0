use Rattle.std.proofs.Common.{ap}
use Rattle.bm_lane.proofs.Relays.{forks}
use Rattle.bm_lane.proofs.blank.Blank.ends.Goals as goal

pub another-other-requires-clause-rule : goal.another-other-requires-clause-rule
another-other-requires-clause-rule g c = forks _ _ (ap (λ v. v.puts) c.self.invariant.2) (ap (λ v. v.takes) c.self.invariant.2)

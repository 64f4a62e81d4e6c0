use Rattle.std.proofs.Common.{drop, ◌++◌, ap}
use Rattle.bm_lane.specs.Additions.{Showing, kept_list}
use Rattle.bm_lane.proofs.Chains.{idle, few}
use Rattle.bm_lane.proofs.publisher.Publisher.is_idle.Goals as goal

pub returns-in-None-clause-idle : goal.returns-in-None-clause-idle
returns-in-None-clause-idle g c =
    let p = c.has_pending_operations.ensures in
    idle c.has_pending_operations.result (drop c.self.inside.copy.behind c.self.inside.copy.log.items) c.args.self.now.held c.self.inside.kept p.0 p.1 c.in-None.is (ap (λ (s : Showing). s.held) c.self.view_is)

pub returns-in-None-clause-few : goal.returns-in-None-clause-few
returns-in-None-clause-few g c = few (drop c.self.inside.copy.behind c.self.inside.copy.log.items ++ kept_list c.self.inside.kept) c.args.self.now.held c.self.invariant.3 (ap (λ (s : Showing). s.held) c.self.view_is)

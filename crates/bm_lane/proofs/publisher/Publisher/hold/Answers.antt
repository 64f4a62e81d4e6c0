use Rattle.std.proofs.Common.{drop, ap, ◌∙◌}
use Rattle.bm_lane.specs.Additions.{Showing}
use Rattle.bm_lane.proofs.Chains.{holds_one}
use Rattle.bm_lane.proofs.publisher.Publisher.hold.Goals as goal

pub invariant_of-self : goal.invariant_of-self
invariant_of-self g c =
    let i = c.self.invariant in
    (holds_one c.self.inside.copy.desk.shown.value (drop c.self.inside.copy.behind c.self.inside.copy.log.items) c.self.inside.kept c.self.inside.head.all c.add.new.self.all (record { item = c.args.item; count = c.add.new.self.count; front = c.again.result }) i.0 i.2 (ap (λ (s : Showing). s.held) c.self.view_is ∙ c.requires) c.add.ensures.same c.add.ensures.log c.add.new.self.counted c.again.ensures).0

pub returns : goal.returns
returns g c =
    let i = c.self.invariant in
    let one = (holds_one c.self.inside.copy.desk.shown.value (drop c.self.inside.copy.behind c.self.inside.copy.log.items) c.self.inside.kept c.self.inside.head.all c.add.new.self.all (record { item = c.args.item; count = c.add.new.self.count; front = c.again.result }) i.0 i.2 (ap (λ (s : Showing). s.held) c.self.view_is ∙ c.requires) c.add.ensures.same c.add.ensures.log c.add.new.self.counted c.again.ensures).1 in
    λ k. record { history = (ap (λ (s : Showing). s.history) c.self.view_is) k; shown = (ap (λ (s : Showing). s.shown) c.self.view_is) k; held = one k; kept = (ap (λ (s : Showing). s.kept) c.self.view_is) k }

use Rattle.std.proofs.Common.{◌≡◌, drop, ◌++◌, sym, ap, ◌∙◌, subst}
use Rattle.left_right.specs.Sides.{view}
use Rattle.bm_lane.specs.declared.published.Published.{Published}
use Rattle.bm_lane.specs.Additions.{Chain, kept_list}
use Rattle.bm_lane.proofs.Chains.{showed, shown_as}
use Rattle.bm_lane.proofs.publisher.Publisher.show.Goals as goal

pub returns : goal.returns
returns g c =
    let r = c.refill.ensures in
    let i = c.self.invariant in
    let ops = drop c.self.inside.copy.behind c.self.inside.copy.log.items ++ kept_list c.self.inside.kept in
    let x = c.refill.new.copy.desk.shown.value in
    let same : x ≡ c.self.inside.copy.desk.shown.value = ap (λ d. d.shown.value) r.desk in
    showed c.replace_with.result x c.replace_with.new.dest.desk.shown.value
    (drop c.refill.new.copy.behind c.refill.new.copy.log.items)
    (drop c.replace_with.new.dest.behind c.replace_with.new.dest.log.items)
    ops c.refill.new.kept c.args.self.now (view c.replace_with.new.dest.desk.place)
    r.all c.in_ok-refill.ensures.none
    (subst (λ (b : Published). Chain b.front ops) (sym same) i.1)
    (ap (λ (b : Published). shown_as b ops) same ∙ c.self.view_is)
    c.replace_with.ensures

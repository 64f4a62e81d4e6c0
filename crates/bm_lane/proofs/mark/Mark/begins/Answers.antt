use Rattle.std.proofs.Common.{rules, arith, ap, subst, List, ◌≤◌, length}
use mathlib.Core.List.{IsPrefix}
use Rattle.bm_session.specs.declared.item.Item.{Item}
use Rattle.bm_lane.specs.Ends.{Watched}
use Rattle.bm_lane.specs.Fronts.{Front}
use Rattle.bm_lane.proofs.Marks.{prefix_shorter}
use Rattle.bm_lane.proofs.mark.Mark.begins.Goals as goal

pub returns : goal.returns
returns g c t =
    let few : c.self.inside.count ≤ c.args.count = search rules in
    let le : length c.self.inside.front.log ≤ length c.args.front.now.log = omega (arith, few, c.self.invariant.1, c.requires.1) in
    let known = c.learn.ensures in
    let mine : IsPrefix c.self.inside.front.log c.learn.new.self.log =
    subst (λ (f : Front). IsPrefix f.log c.learn.new.self.log) c.again-both.ensures known.2 in
    subst (λ (l : List Item). IsPrefix l c.args.front.now.log) (ap (λ (w : Watched). w.seen) c.self.view_is)
    (prefix_shorter c.self.inside.front.log c.args.front.now.log c.learn.new.self.log mine known.3 le)

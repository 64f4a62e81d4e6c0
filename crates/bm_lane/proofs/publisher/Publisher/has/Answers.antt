use Rattle.std.proofs.Common.{◌≡◌, List, drop, ◌++◌, sym, ap, ◌∙◌, subst}
use mathlib.Core.List.{IsPrefix}
use Rattle.bm_session.specs.declared.item.Item.{Item}
use Rattle.bm_lane.specs.Fronts.{Front}
use Rattle.bm_lane.specs.Additions.{Showing, kept_list}
use Rattle.bm_lane.proofs.Chains.{all_shown}
use Rattle.bm_lane.proofs.publisher.Publisher.has.Goals as goal

pub has-requires : goal.has-requires
has-requires g c =
    let f = all_shown c.self.inside.copy.desk.shown.value.front c.self.inside.head.all (drop c.self.inside.copy.behind c.self.inside.copy.log.items ++ kept_list c.self.inside.kept) c.self.invariant.2 (ap (λ (s : Showing). s.held) c.self.view_is ∙ c.requires.1) in
    c.requires.0 ∙ ap (λ (s : Showing). s.history) (sym c.self.view_is) ∙ ap (λ (t : Front). t.book) f

pub invariant_of-self : goal.invariant_of-self
invariant_of-self g c =
    let i = c.self.invariant in (i.0, i.1, i.2 ∙ sym c.has.ensures.same, i.3)

pub returns-clause-prefix : goal.returns-clause-prefix
returns-clause-prefix g c =
    let f = all_shown c.self.inside.copy.desk.shown.value.front c.self.inside.head.all (drop c.self.inside.copy.behind c.self.inside.copy.log.items ++ kept_list c.self.inside.kept) c.self.invariant.2 (ap (λ (s : Showing). s.held) c.self.view_is ∙ c.requires.1) in
    let e : c.self.inside.head.all.log ≡ c.args.self.now.shown = ap (λ (t : Front). t.log) (sym f) ∙ ap (λ (s : Showing). s.shown) c.self.view_is in
    subst (λ (l : List Item). IsPrefix c.args.seen.now.log l) e c.has.ensures.prefix

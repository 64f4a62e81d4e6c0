use Rattle.std.proofs.Common.{◌≡◌, ◌≤◌, arith, [], List, length, ◌∙◌, subst, ap, refl, sym, true≢false}
use Rattle.bm_session.specs.declared.item.Item.{Item}
use Rattle.bm_lane.specs.Additions.{Showing}
use Rattle.bm_lane.specs.Copies.{kept_book}
use Rattle.bm_lane.specs.Ends.{Written, IsWritten}
use Rattle.bm_lane.specs.Relay.{known}
use Rattle.bm_lane.proofs.Draining.{one_of_few, same_head}
use Rattle.bm_lane.proofs.Relays.{gets}
use Rattle.bm_lane.proofs.Writing.{stands, took}
use Rattle.bm_lane.proofs.writer_end.WriterEnd.ready.Goals as goal

pub pop_as-requires-clause-rule : goal.pop_as-requires-clause-rule
pop_as-requires-clause-rule g c = (gets _ _ (ap (λ v. v.takes) c.self.invariant.2), λ items views h at. tt)

pub returns-then-not-is_idle-clause-ready : goal.returns-then-not-is_idle-clause-ready
returns-then-not-is_idle-clause-ready g c =
    let held = ap (λ (w : Written). w.held) c.self.view_is in
    let one = one_of_few c.self.inside.publisher.held c.is_idle.ensures.few (λ e. true≢false (sym (c.is_idle.ensures.idle.1 e) ∙ c.if-not-is_idle.true)) in
    ((one.0, refl, sym held ∙ one.1, (refl, refl), λ y e. same_head y one.0 (sym e ∙ sym held ∙ one.1)), refl)

pub returns-then-not-is_idle-clause-before : goal.returns-then-not-is_idle-clause-before
returns-then-not-is_idle-clause-before g c =
    let w = c.self.inside in
    subst IsWritten c.self.view_is (stands w.lane w.viewers (known w.pass) w.publisher c.self.invariant.2 c.self.invariant.4 c.self.invariant.5)

pub returns-then-not-is_idle-clause-after : goal.returns-then-not-is_idle-clause-after
returns-then-not-is_idle-clause-after g c =
    let w = c.self.inside in
    subst IsWritten c.self.view_is (stands w.lane w.viewers (known w.pass) w.publisher c.self.invariant.2 c.self.invariant.4 c.self.invariant.5)

pub returns-in-Some-clause-before : goal.returns-in-Some-clause-before
returns-in-Some-clause-before g c =
    let w = c.self.inside in
    subst IsWritten c.self.view_is (stands w.lane w.viewers (known w.pass) w.publisher c.self.invariant.2 c.self.invariant.4 c.self.invariant.5)

pub returns-in-None-clause-before : goal.returns-in-None-clause-before
returns-in-None-clause-before g c =
    let w = c.self.inside in
    subst IsWritten c.self.view_is (stands w.lane w.viewers (known w.pass) w.publisher c.self.invariant.2 c.self.invariant.4 c.self.invariant.5)

pub returns-in-None-clause-after : goal.returns-in-None-clause-after
returns-in-None-clause-after g c =
    let w = c.self.inside in
    stands w.lane w.viewers (known c.pop_as.new.pass) w.publisher (c.in-None.ensures.rule.0 ∙ c.self.invariant.2) c.self.invariant.4 c.self.invariant.5

pub returns-in-Some-clause-after : goal.returns-in-Some-clause-after
returns-in-Some-clause-after g c =
    let w = c.self.inside in
    let none : w.publisher.held ≡ [] = c.is_idle.ensures.idle.0 c.if-not-is_idle.false in
    let s = c.hold.ensures in
    stands w.lane w.viewers (known c.pop_as.new.pass) c.hold.new.self
    (took (known w.pass) (known c.pop_as.new.pass) w.publisher c.hold.new.self c.in-Some.item c.self.invariant.2 none c.in-Some.ensures.rule s)
    (ap (λ (z : Showing). z.kept) s ∙ c.self.invariant.4 ∙ ap (λ (z : Showing). kept_book z.shown) (sym s))
    (subst (λ (l : List Item). length l ≤ 1) (ap (λ (z : Showing). z.held) (sym s)) (omega arith))

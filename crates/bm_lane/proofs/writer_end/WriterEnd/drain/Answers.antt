use Rattle.std.proofs.Common.{◌≤◌, List, length, ◌++◌, [], ap, sym, ◌∙◌, subst, arith, true, false}
use Rattle.std.proofs.lemmas.List.{append-nil}
use Rattle.bm_session.specs.declared.item.Item.{Item}
use Rattle.bm_lane.specs.Additions.{Showing}
use Rattle.bm_lane.specs.Copies.{kept_book}
use Rattle.bm_lane.specs.Relay.{hand, known}
use Rattle.bm_lane.proofs.Writing.{stands}
use Rattle.bm_lane.proofs.writer_end.WriterEnd.drain.Goals as goal

pub returns-clause-after : goal.returns-clause-after
returns-clause-after g c =
    let w = c.self.inside in
    let s = c.in_ok-show.ensures in
    stands w.lane w.viewers (known w.pass) c.show.new.self
    (c.self.invariant.2 ∙ ap (λ (l : List Item). hand false true [] l) (sym (append-nil (w.publisher.shown ++ w.publisher.held))) ∙ ap (λ (z : Showing). hand false true [] (z.shown ++ z.held)) (sym s))
    (ap (λ (z : Showing). z.kept) s ∙ ap (λ (z : Showing). kept_book z.shown) (sym s))
    (subst (λ (l : List Item). length l ≤ 1) (ap (λ (z : Showing). z.held) (sym s)) (omega arith))

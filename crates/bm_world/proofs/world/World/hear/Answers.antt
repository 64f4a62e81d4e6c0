use Rattle.std.proofs.Common.{◌≡◌, ◌∙◌, sym, ap, List, [], ◌∷◌, ◌++◌, Some, None, arith}
use Rattle.bm_session.specs.Session.{Planned}
use Rattle.bm_session.specs.Trace.{Trace, refusal, item}
use Rattle.bm_session.specs.declared.item.Item.{Item}
use Rattle.bm_world.specs.World.{World, Stepped, heard}
use Rattle.bm_world.proofs.Keeping.{lane, heard-quietly, heard-busy, heard-item}
use Rattle.bm_world.proofs.world.World.hear.Goals as goal

pub returns-then-len-self-clause-answer : goal.returns-then-len-self-clause-answer
returns-then-len-self-clause-answer c =
    let t = c.self.inside.session.trace in
    let some : item t c.args.event ≡ Some c.in-Some.item = sym c.in-Ok.ensures.item ∙ sym c.take_item.ensures.given ∙ c.in-Some.is in
    let taken : refusal t c.args.event ≡ None = sym (λ k. refusal (c.ready.ensures.same k) (c.in-Ok.ensures.event k)) ∙ c.in-Ok.ensures.planned.accepted in
    let full = heard-busy c.self.inside.capacity t c.args.event c.in-Some.item c.self.inside.queue.items c.self.inside.book c.self.invariant taken some (omega arith) in
    sym (ap (λ (s : Stepped). s.0) full) ∙ ap (λ (w : World). (heard w c.args.event (refusal w.trace c.args.event)).0) c.self.view_is

pub returns-then-len-self-clause-after : goal.returns-then-len-self-clause-after
returns-then-len-self-clause-after c =
    let t = c.self.inside.session.trace in
    let some : item t c.args.event ≡ Some c.in-Some.item = sym c.in-Ok.ensures.item ∙ sym c.take_item.ensures.given ∙ c.in-Some.is in
    let taken : refusal t c.args.event ≡ None = sym (λ k. refusal (c.ready.ensures.same k) (c.in-Ok.ensures.event k)) ∙ c.in-Ok.ensures.planned.accepted in
    let full = heard-busy c.self.inside.capacity t c.args.event c.in-Some.item c.self.inside.queue.items c.self.inside.book c.self.invariant taken some (omega arith) in
    ap (λ (s : Trace). lane c.self.inside.capacity s c.self.inside.queue.items) c.ready.ensures.same ∙ sym (ap (λ (s : Stepped). s.1) full) ∙ ap (λ (w : World). (heard w c.args.event (refusal w.trace c.args.event)).1) c.self.view_is

-- the trace grew by an event that gives no item
pub invariant_of-self-in_default : goal.invariant_of-self-in_default
invariant_of-self-in_default c =
    let t = c.self.inside.session.trace in
    let event : c.take_item.new.self.event ≡ c.args.event = ap (λ (p : Planned). p.event) c.take_item.ensures.left ∙ c.in-Ok.ensures.event in
    let grown : c.commit.new.session.trace ≡ t ++ c.args.event ∷ [] = c.commit.ensures.trace ∙ (λ k. c.ready.ensures.same k ++ event k ∷ []) in
    let none : item t c.args.event ≡ None = sym c.in-Ok.ensures.item ∙ sym c.take_item.ensures.given ∙ c.in_default.is in
    let taken : refusal t c.args.event ≡ None = sym (λ k. refusal (c.ready.ensures.same k) (c.in-Ok.ensures.event k)) ∙ c.in-Ok.ensures.planned.accepted in
    (heard-quietly c.self.inside.capacity t c.commit.new.session.trace c.args.event c.self.inside.queue.items c.self.inside.book c.self.invariant taken none grown).0

pub returns-in_default-clause-after : goal.returns-in_default-clause-after
returns-in_default-clause-after c =
    let t = c.self.inside.session.trace in
    let event : c.take_item.new.self.event ≡ c.args.event = ap (λ (p : Planned). p.event) c.take_item.ensures.left ∙ c.in-Ok.ensures.event in
    let grown : c.commit.new.session.trace ≡ t ++ c.args.event ∷ [] = c.commit.ensures.trace ∙ (λ k. c.ready.ensures.same k ++ event k ∷ []) in
    let none : item t c.args.event ≡ None = sym c.in-Ok.ensures.item ∙ sym c.take_item.ensures.given ∙ c.in_default.is in
    let taken : refusal t c.args.event ≡ None = sym (λ k. refusal (c.ready.ensures.same k) (c.in-Ok.ensures.event k)) ∙ c.in-Ok.ensures.planned.accepted in
    (heard-quietly c.self.inside.capacity t c.commit.new.session.trace c.args.event c.self.inside.queue.items c.self.inside.book c.self.invariant taken none grown).1
    ∙ ap (λ (w : World). (heard w c.args.event (refusal w.trace c.args.event)).1) c.self.view_is

-- the trace grew by an event whose item waits
pub invariant_of-self-2 : goal.invariant_of-self-2
invariant_of-self-2 c =
    let t = c.self.inside.session.trace in
    let event : c.take_item.new.self.event ≡ c.args.event = ap (λ (p : Planned). p.event) c.take_item.ensures.left ∙ c.in-Ok.ensures.event in
    let grown : c.commit-2.new.session.trace ≡ t ++ c.args.event ∷ [] = c.commit-2.ensures.trace ∙ (λ k. c.ready.ensures.same k ++ event k ∷ []) in
    let some : item t c.args.event ≡ Some c.in-Some.item = sym c.in-Ok.ensures.item ∙ sym c.take_item.ensures.given ∙ c.in-Some.is in
    let taken : refusal t c.args.event ≡ None = sym (λ k. refusal (c.ready.ensures.same k) (c.in-Ok.ensures.event k)) ∙ c.in-Ok.ensures.planned.accepted in
    let queue = c.push_back_reserved.ensures.items ∙ ap (λ (q : List Item). q ++ c.in-Some.item ∷ []) c.reserve.ensures.items in
    (heard-item c.self.inside.capacity t c.commit-2.new.session.trace c.args.event c.in-Some.item c.self.inside.queue.items c.push_back_reserved.new.self.items c.self.inside.book c.self.invariant taken some (omega arith) grown queue).0

pub returns-clause-after : goal.returns-clause-after
returns-clause-after c =
    let t = c.self.inside.session.trace in
    let event : c.take_item.new.self.event ≡ c.args.event = ap (λ (p : Planned). p.event) c.take_item.ensures.left ∙ c.in-Ok.ensures.event in
    let grown : c.commit-2.new.session.trace ≡ t ++ c.args.event ∷ [] = c.commit-2.ensures.trace ∙ (λ k. c.ready.ensures.same k ++ event k ∷ []) in
    let some : item t c.args.event ≡ Some c.in-Some.item = sym c.in-Ok.ensures.item ∙ sym c.take_item.ensures.given ∙ c.in-Some.is in
    let taken : refusal t c.args.event ≡ None = sym (λ k. refusal (c.ready.ensures.same k) (c.in-Ok.ensures.event k)) ∙ c.in-Ok.ensures.planned.accepted in
    let queue = c.push_back_reserved.ensures.items ∙ ap (λ (q : List Item). q ++ c.in-Some.item ∷ []) c.reserve.ensures.items in
    (heard-item c.self.inside.capacity t c.commit-2.new.session.trace c.args.event c.in-Some.item c.self.inside.queue.items c.push_back_reserved.new.self.items c.self.inside.book c.self.invariant taken some (omega arith) grown queue).1
    ∙ ap (λ (w : World). (heard w c.args.event (refusal w.trace c.args.event)).1) c.self.view_is

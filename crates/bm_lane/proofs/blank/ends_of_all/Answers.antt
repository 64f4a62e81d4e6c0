use Rattle.std.proofs.Common.{◌≡◌, suc, ◌+◌, ◌++◌, length, map, ap, sym, ◌∙◌, subst, arith, vec_len}
use Rattle.std.specs.Vec.Iter.{into_iter_items, into_iter_len}
use Rattle.std.proofs.lemmas.List.{append-nil, nil_from_length}
use Rattle.std.proofs.lemmas.List.Elements.{All-same, All-push}
use Rattle.bm_lane.specs.declared.blank.Ends.{Ends}
use Rattle.bm_lane.specs.Placed.{ArePlaced, new_reader, new_writer, new_readers, new_writers, AreItsViewers}
use Rattle.bm_lane.proofs.Picking.{made_more}
use Rattle.bm_lane.proofs.blank.ends_of_all.Goals as goal

pub loop-blank-preserved : goal.loop-blank-preserved
loop-blank-preserved g c =
    let i = c.loop-blank.invariant in
    let n = c.loop-blank.lane in
    let b = c.in-Some.blank in
    let e = c.in-Ok.ends in
    let next = c.in-Some.ensures.steps in
    let grown = c.push_reserved.ensures.items in
    let count : n + into_iter_len c.loop-blank.blank-iterator ≡ vec_len c.args.blanks = i.count in
    let one : into_iter_len c.next.new.self + 1 ≡ into_iter_len c.loop-blank.blank-iterator = next.1 in
    let left : length (into_iter_items c.loop-blank.blank-iterator) ≡ into_iter_len c.loop-blank.blank-iterator = i.left in
    let less : length (into_iter_items c.loop-blank.blank-iterator) ≡ suc (length (into_iter_items c.next.new.self)) = ap length next.0 in
    record {
      placed = (subst (λ bs. ArePlaced g.Y.Yard.queue g.Y.Yard.copy n bs) next.0 i.placed).2;
      count = omega (arith, count, one);
      left = omega (arith, left, less, one);
      made = c.push_reserved.ensures.len ∙ ap (λ m. m + 1) i.made;
      room = omega (arith, c.push_reserved.ensures.capacity, i.room);
      readers = made_more (λ (x : Ends g.row.Y.Denot g.row.W.Denot). x.reader) c.loop-blank.all.items c.push_reserved.new.self.items e (new_reader n b) (new_readers (n + 1) (into_iter_items c.next.new.self)) (new_readers 0 c.args.blanks.items) grown c.in-Ok.ensures.reader (ap (λ bs. map (λ (x : Ends g.row.Y.Denot g.row.W.Denot). x.reader) c.loop-blank.all.items ++ new_readers n bs) (sym next.0) ∙ i.readers);
      writers = made_more (λ (x : Ends g.row.Y.Denot g.row.W.Denot). x.writer) c.loop-blank.all.items c.push_reserved.new.self.items e (new_writer n b) (new_writers (n + 1) (into_iter_items c.next.new.self)) (new_writers 0 c.args.blanks.items) grown c.in-Ok.ensures.writer (ap (λ bs. map (λ (x : Ends g.row.Y.Denot g.row.W.Denot). x.writer) c.loop-blank.all.items ++ new_writers n bs) (sym next.0) ∙ i.writers);
      viewers = All-same (λ (x : Ends g.row.Y.Denot g.row.W.Denot). AreItsViewers x.writer x.viewers.items) _ _ grown (All-push (λ (x : Ends g.row.Y.Denot g.row.W.Denot). AreItsViewers x.writer x.viewers.items) c.loop-blank.all.items e i.viewers (subst (λ w. AreItsViewers w e.viewers.items) (sym c.in-Ok.ensures.writer) c.in-Ok.ensures.viewers));
    }

pub returns-clause-readers : goal.returns-clause-readers
returns-clause-readers g c =
    let i = c.loop-blank.invariant in
    let none = nil_from_length (into_iter_items c.loop-blank.blank-iterator) (i.left ∙ c.in-None.ensures.steps.0) in
    sym (append-nil _) ∙ ap (λ bs. map (λ (x : Ends g.row.Y.Denot g.row.W.Denot). x.reader) c.loop-blank.all.items ++ new_readers c.loop-blank.lane bs) (sym none) ∙ i.readers

pub returns-clause-writers : goal.returns-clause-writers
returns-clause-writers g c =
    let i = c.loop-blank.invariant in
    let none = nil_from_length (into_iter_items c.loop-blank.blank-iterator) (i.left ∙ c.in-None.ensures.steps.0) in
    sym (append-nil _) ∙ ap (λ bs. map (λ (x : Ends g.row.Y.Denot g.row.W.Denot). x.writer) c.loop-blank.all.items ++ new_writers c.loop-blank.lane bs) (sym none) ∙ i.writers

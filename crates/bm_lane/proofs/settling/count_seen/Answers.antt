use Rattle.std.proofs.Common.{◌<◌, ◌∷◌, ◌++◌, [], List, length, sym, ap, ◌∙◌, subst, arith}
use Rattle.bm_session.specs.declared.item.Item.{Item}
use mathlib.Core.List.{IsPrefix}
use Rattle.bm_lane.proofs.Counting.{counts_more, one_more}
use Rattle.bm_lane.proofs.settling.count_seen.Goals as goal

pub loop-viewer-preserved : goal.loop-viewer-preserved
loop-viewer-preserved g c =
    let i = c.loop-viewer.invariant in
    let vs = c.args.viewers.now in
    let n = c.loop-viewer.viewer-index in
    let v = c.viewer-item.result in
    let here : n < length vs = omega arith in
    let prefix : IsPrefix v.seen c.args.publisher.now.shown = subst (λ (l : List Item). IsPrefix v.seen l) (ap (λ s. s.shown) i.same) c.check.ensures.prefix in
    record {
      same = c.check.ensures.same ∙ i.same;
      seen = c.push_reserved.ensures.items ∙ (λ k. i.seen k ++ c.count.ensures k ∷ []) ∙ sym (counts_more vs n v here (sym c.viewer-item.is));
      begin = one_more vs n c.args.publisher.now.shown v here c.viewer-item.is prefix i.begin;
      room = omega (arith, c.push_reserved.ensures.capacity, i.room);
    }

pub returns-clause-begin : goal.returns-clause-begin
returns-clause-begin g c = λ k d h. c.loop-viewer.invariant.begin k (omega arith) d

use Rattle.std.proofs.Common.{◌<◌, ◌+◌, ◌-◌, ◌/◌, ℕ, subst, arith}
use Rattle.std.proofs.lemmas.Option.{get_or_from_slice_get}
use Rattle.bm_store.specs.declared.placed.Placed.{Placed}
use Rattle.bm_store.proofs.Gathering.{stands-or, found-at}
use Rattle.bm_store.proofs.gather.seek.Goals as goal

pub loop-high-preserved-then-first-offset : goal.loop-high-preserved-then-first-offset
loop-high-preserved-then-first-offset c =
    let inside = c.loop-high.invariant.inside in
    let apart = c.loop-high-test.true in
    let middle : ℕ = c.loop-high.low + (c.loop-high.high - c.loop-high.low) / 2 in
    let below : middle < c.loop-high.high = omega arith in
    record {
      inside = inside;
      apart = λ h. below;
      empty = omega arith;
      stands = stands-or c.args.blocks.now middle c.index-blocks-middle.result c.requires (omega arith);
      reached = c.if-first-offset.true;
      ahead = c.loop-high.invariant.ahead;
    }

pub loop-high-preserved : goal.loop-high-preserved
loop-high-preserved c =
    let inside = c.loop-high.invariant.inside in
    let apart = c.loop-high-test.true in
    let middle : ℕ = c.loop-high.low + (c.loop-high.high - c.loop-high.low) / 2 in
    let above : c.loop-high.low < middle = omega arith in
    record {
      inside = omega arith;
      apart = λ h. above;
      empty = omega arith;
      stands = c.loop-high.invariant.stands;
      reached = c.loop-high.invariant.reached;
      ahead = λ p at.
          let same = get_or_from_slice_get c.args.blocks.now middle p c.index-blocks-middle.result at in
          subst (λ (q : Placed). c.args.offset < q.first) same c.if-first-offset.false;
    }

pub returns-clause-rest : goal.returns-clause-rest
returns-clause-rest c = found-at c.args.blocks.now c.loop-high.low c.args.offset c.loop-high.before c.loop-high.invariant.stands c.loop-high.invariant.reached

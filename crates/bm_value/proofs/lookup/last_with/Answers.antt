use Rattle.std.proofs.Common.{sym, ap, ◌∙◌, arith}
use Rattle.bm_value.specs.Field.{last_with}
use Rattle.bm_value.specs.View.{pairs_in}
use Rattle.bm_value.proofs.Keys.{last_found, last_not}
use Rattle.bm_value.proofs.Written.{pairs_out}
use Rattle.bm_value.proofs.lookup.last_with.Goals as goal

pub returns-then-is_str : goal.returns-then-is_str
returns-then-is_str g c =
    let found = last_found c.args.key.now (pairs_in c.args.pairs.now) c.loop-left.left c.index-pair.result.now c.loop-left-test.true c.loop-left.invariant.0 c.index-pair.ensures c.loop-left.invariant.1 (sym c.is_str.ensures ∙ c.if-is_str.true) in
    sym (ap (last_with c.args.key.now) (pairs_out c.args.pairs.now) ∙ found)

pub loop-left-preserved : goal.loop-left-preserved
loop-left-preserved g c =
    (omega arith, last_not c.args.key.now (pairs_in c.args.pairs.now) c.loop-left.left c.index-pair.result.now c.loop-left-test.true c.loop-left.invariant.0 c.index-pair.ensures c.loop-left.invariant.1 (sym c.is_str.ensures ∙ c.if-is_str.false))

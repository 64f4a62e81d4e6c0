use Rattle.std.proofs.Common.{sym, ◌∙◌, arith}
use Rattle.std.proofs.lemmas.List.{length-set}
use Rattle.bm_commands.specs.Rows.{lost}
use Rattle.bm_commands.proofs.Changing.{changed_more}
use Rattle.bm_commands.proofs.table.lose_all.Goals as goal

pub loop-row-preserved : goal.loop-row-preserved
loop-row-preserved c = (
  changed_more lost c.args.rows.now c.loop-row.rows c.loop-row.row-index _ c.lost.result (omega (arith, c.loop-row.invariant.1, c.loop-row-test.true)) c.lost.ensures c.loop-row.invariant.0 c.loop-row.invariant.1,
  c.loop-row.invariant.1 ∙ sym (length-set c.loop-row.rows c.loop-row.row-index c.lost.result),
)

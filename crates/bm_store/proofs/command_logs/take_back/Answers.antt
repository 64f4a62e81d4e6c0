use Rattle.std.proofs.Common.{sym, ◌-◌, ap, get_or, arith}
use Rattle.bm_lines.specs.declared.line_batch.LogLines.{LogLines}
use Rattle.bm_store.proofs.Shelves.{part-back}
use Rattle.bm_store.proofs.command_logs.take_back.Goals as goal

pub loop-left-preserved : goal.loop-left-preserved
loop-left-preserved c = record {
  inside = omega (arith, c.loop-left.invariant.inside);
  taken = λ base h e.
      part-back c.args.parts.now c.index-parts-left.result c.index-parts-left.result (c.loop-left.left - 1) c.loop-left.left (get_or c.args.parts.now (c.loop-left.left - 1) c.index-parts-left.result).name base c.loop-left.logs.items c.remove_last.new.logs.items
      h (omega arith) (omega (arith, c.loop-left.invariant.inside)) c.index-parts-left.is (ap (λ (p : LogLines). p.name) (sym c.index-parts-left.is))
      (c.loop-left.invariant.taken base h e) c.remove_last.ensures;
}

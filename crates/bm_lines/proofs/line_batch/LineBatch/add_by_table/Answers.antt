use Rattle.bm_lines.proofs.PartLists.{are_distinct-kept}
use Rattle.bm_lines.proofs.line_batch.LineBatch.add_by_table.Goals as goal

pub invariant_of-self : goal.invariant_of-self
invariant_of-self c = are_distinct-kept c.put_by_table.result _ _ _ _ c.put_by_table.ensures.ok c.put_by_table.ensures.err c.self.invariant

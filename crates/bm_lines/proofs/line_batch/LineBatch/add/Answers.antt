use Rattle.bm_lines.proofs.PartLists.{are_distinct-kept}
use Rattle.bm_lines.proofs.line_batch.LineBatch.add.Goals as goal

pub invariant_of-self : goal.invariant_of-self
invariant_of-self c = are_distinct-kept c.put.result _ _ _ _ c.put.ensures.ok c.put.ensures.err c.self.invariant

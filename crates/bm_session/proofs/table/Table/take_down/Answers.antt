use Rattle.std.proofs.Common.{refl}
use Rattle.bm_session.proofs.Taking.{table-Down}
use Rattle.bm_session.proofs.table.Table.take_down.Goals as goal

pub returns-clause-table : goal.returns-clause-table
returns-clause-table c = λ t is. table-Down c.args.self.now _ t is refl refl c.clear.ensures.items refl c.clear-2.ensures.ranges

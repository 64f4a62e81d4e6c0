use Rattle.std.proofs.Common.{refl}
use Rattle.bm_session.proofs.Taking.{table-Cut}
use Rattle.bm_session.proofs.table.Table.take_cut.Goals as goal

pub returns-clause-table : goal.returns-clause-table
returns-clause-table c = λ t is r. table-Cut c.args.self.now _ t is r refl refl refl refl refl

use Rattle.std.proofs.Common.{refl}
use Rattle.bm_session.proofs.Taking.{table-Up}
use Rattle.bm_session.proofs.table.Table.take_up.Goals as goal

pub returns-clause-table : goal.returns-clause-table
returns-clause-table c = λ t is r. table-Up c.args.self.now _ t is r refl c.orders_after_up-self.ensures refl refl refl

use Rattle.std.proofs.Common.{refl}
use Rattle.bm_session.proofs.Taking.{table-Stop}
use Rattle.bm_session.proofs.table.Table.take_stop.Goals as goal

pub returns-clause-table : goal.returns-clause-table
returns-clause-table c = λ t is r. table-Stop c.args.self.now _ t c.args.command is r refl refl c.note_stop.ensures.items refl refl

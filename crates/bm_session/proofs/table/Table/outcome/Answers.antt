use Rattle.std.proofs.Common.{sym, arith}
use Rattle.bm_session.proofs.Lookups.{outcome-none}
use Rattle.bm_session.proofs.table.Table.outcome.Goals as goal

pub returns-then-command-len : goal.returns-then-command-len
returns-then-command-len c = λ t is. sym (outcome-none t c.args.command (omega (arith, is.counted)))

use Rattle.std.proofs.Common.{sym}
use Rattle.bm_decimal.proofs.Digits.{no_text}
use Rattle.bm_decimal.proofs.read_number_in.Goals as goal

pub returns-in-Err : goal.returns-in-Err
returns-in-Err c = sym (no_text c.args.bytes.now c.in-Err.ensures.cases.0)

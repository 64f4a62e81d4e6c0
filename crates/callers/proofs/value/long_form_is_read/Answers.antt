use Rattle.std.proofs.Common.{pos}
use Rattle.bm_value.specs.Tree.{int}
use Rattle.callers.proofs.ValueAnswers.{long_five, read_as, refused_for_memory}
use Rattle.callers.proofs.value.long_form_is_read.Goals as goal

pub returns-clause-five : goal.returns-clause-five
returns-clause-five g c = read_as c.decode.result (int (pos 5)) 2 (c.decode.ensures.only (int (pos 5)) 2 long_five)

pub returns-clause-only_memory : goal.returns-clause-only_memory
returns-clause-only_memory g c = refused_for_memory c.decode.result (int (pos 5)) 2 (c.decode.ensures.only (int (pos 5)) 2 long_five)

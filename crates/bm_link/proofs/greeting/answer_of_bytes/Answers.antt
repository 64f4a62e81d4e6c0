use Rattle.bm_value.specs.View.{tree}
use Rattle.bm_link.proofs.Spelled.{answer_of_spelled, no_answer_of_bytes, no_answer_of_spelled}
use Rattle.bm_link.proofs.greeting.answer_of_bytes.Goals as goal

pub returns-in-Ok-clause-answer : goal.returns-in-Ok-clause-answer
returns-in-Ok-clause-answer c =
    answer_of_spelled c.args.bytes.now (tree c.in-Ok.tree) c.in-Ok.ensures.found.0 c.in-Ok.ensures.found.1 c.in-Ok.ensures.only c.answer_in.result c.answer_in.ensures.answer

pub returns-in-Ok-clause-fault : goal.returns-in-Ok-clause-fault
returns-in-Ok-clause-fault c =
    no_answer_of_spelled c.args.bytes.now (tree c.in-Ok.tree) c.in-Ok.ensures.found.0 c.in-Ok.ensures.found.1 c.in-Ok.ensures.only c.answer_in.result c.answer_in.ensures.fault

-- the bytes spell no tree
pub returns-in-Err-clause-fault : goal.returns-in-Err-clause-fault
returns-in-Err-clause-fault c = no_answer_of_bytes c.args.bytes.now c.in-Err.fault c.in-Err.ensures.fault c.in-Err.ensures.bad

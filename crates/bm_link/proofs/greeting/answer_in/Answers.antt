use Rattle.bm_value.specs.View.{tree}
use Rattle.bm_msg.specs.Meaning.{meaning}
use Rattle.bm_link.proofs.Spelled.{answer_of_message, no_answer_of_message, no_answer_of_tree}
use Rattle.bm_link.proofs.greeting.answer_in.Goals as goal

pub returns-in-Ok-clause-answer : goal.returns-in-Ok-clause-answer
returns-in-Ok-clause-answer c =
    answer_of_message (tree c.args.message.now) (meaning c.in-Ok.message) c.in-Ok.ensures.found c.in-Ok.ensures.only c.answered.result c.answered.ensures.answer

pub returns-in-Ok-clause-fault : goal.returns-in-Ok-clause-fault
returns-in-Ok-clause-fault c =
    no_answer_of_message (tree c.args.message.now) (meaning c.in-Ok.message) c.in-Ok.ensures.found c.in-Ok.ensures.only c.answered.result c.answered.ensures.fault

-- the tree is no message
pub returns-in-Err-clause-fault : goal.returns-in-Err-clause-fault
returns-in-Err-clause-fault c = no_answer_of_tree (tree c.args.message.now) c.in-Err.fault c.in-Err.ensures.fault c.in-Err.ensures.bad

use Rattle.bm_wired.proofs.Hearable.{orders_can_be_heard, asks_can_be_heard, answers_can_be_heard}
use Rattle.bm_wired.proofs.laws.messages_can_be_heard.Goals as goal

pub returns-clause-order : goal.returns-clause-order
returns-clause-order c = orders_can_be_heard

pub returns-clause-ask : goal.returns-clause-ask
returns-clause-ask c = asks_can_be_heard

pub returns-clause-answer : goal.returns-clause-answer
returns-clause-answer c = answers_can_be_heard

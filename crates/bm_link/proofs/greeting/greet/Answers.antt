use Rattle.std.proofs.Common.{◌∙◌, subst, inr, List, ℕ}
use Rattle.bm_link.specs.Sending.{SendsBytes}
use Rattle.bm_link.proofs.greeting.greet.Goals as goal

-- the socket between the login and its answer
pub returns-in-Ok-read_answer-clause-answer : goal.returns-in-Ok-read_answer-clause-answer
returns-in-Ok-read_answer-clause-answer g c = (
  c.send.new.socket,
  subst (λ (bytes : List ℕ). SendsBytes g.S.Write.contents bytes c.args.socket.now c.send.new.socket)
      (c.as_slice.ensures.value ∙ c.in-Ok.ensures) c.in-Ok-send.ensures.sent,
  c.in-Ok-read_answer.ensures.answer,
)

-- the same, where no answer follows
pub returns-clause-fault : goal.returns-clause-fault
returns-clause-fault g c = inr (
  c.send.new.socket,
  subst (λ (bytes : List ℕ). SendsBytes g.S.Write.contents bytes c.args.socket.now c.send.new.socket)
      (c.as_slice.ensures.value ∙ c.in-Ok.ensures) c.in-Ok-send.ensures.sent,
  c.in-Err-read_answer.ensures.fault,
)

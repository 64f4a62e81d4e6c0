use Rattle.std.proofs.Common.{rules, refl, inr}
use Rattle.bm_msg.specs.Meaning.{meaning}
use Rattle.bm_link.specs.Greeting.{IsRefused}
use Rattle.bm_link.proofs.greeting.answered.Goals as goal

-- the message is an exception to the login
pub returns-then-exception-clause-fault : goal.returns-then-exception-clause-fault
returns-then-exception-clause-fault c = let refused : IsRefused (meaning c.args.message.now) = search rules in inr (refl, refused)

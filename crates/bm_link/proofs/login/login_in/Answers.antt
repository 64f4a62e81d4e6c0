use Rattle.std.proofs.Common.{◌≡◌, ◌∙◌, sym, subst}
use Rattle.bm_value.specs.View.{tree}
use Rattle.bm_msg.specs.Meaning.{Meaning, meaning}
use Rattle.bm_msg.specs.Messages.{IsMessage}
use Rattle.bm_link.proofs.Spelled.{no_login_of_message, no_login_of_tree}
use Rattle.bm_link.proofs.login.login_in.Goals as goal

-- the login and what it names beside its session were read of one tree
pub returns-in-Some-clause-login : goal.returns-in-Some-clause-login
returns-in-Some-clause-login c = (
  subst (λ (m : Meaning). IsMessage (tree c.args.message.now) m) c.in-Some.ensures.login.0 c.in-Ok.ensures.found,
  sym (c.in-Some.ensures.login.1 ∙ c.in-Ok-next_session.ensures),
)

-- the message that was read is no login
pub returns-in-None-clause-bad : goal.returns-in-None-clause-bad
returns-in-None-clause-bad c =
    λ bad. no_login_of_message (tree c.args.message.now) (meaning c.in-Ok.auth) c.in-Ok.ensures.only (sym c.in-None.ensures.other)

-- there is no message
pub returns-in-Err-clause-bad : goal.returns-in-Err-clause-bad
returns-in-Err-clause-bad c = λ bad. no_login_of_tree (tree c.args.message.now) (c.in-Err.ensures.bad bad)

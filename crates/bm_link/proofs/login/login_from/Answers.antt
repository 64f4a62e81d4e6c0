use Rattle.bm_value.specs.View.{tree}
use Rattle.bm_link.specs.Logins.{IsLoginOf}
use Rattle.bm_link.proofs.Spelled.{told_of_tree, untold_of_tree}
use Rattle.bm_link.proofs.login.login_from.Goals as goal

pub returns-in-Ok-clause-login : goal.returns-in-Ok-clause-login
returns-in-Ok-clause-login c =
    told_of_tree IsLoginOf c.args.bytes.now (tree c.in-Ok.tree) c.login_in.result c.in-Ok.ensures.found.0 c.in-Ok.ensures.found.1 c.login_in.ensures.login

pub returns-in-Ok-clause-bad : goal.returns-in-Ok-clause-bad
returns-in-Ok-clause-bad c = untold_of_tree IsLoginOf c.args.bytes.now (tree c.in-Ok.tree) c.login_in.result c.in-Ok.ensures.only c.login_in.ensures.bad

use Rattle.std.proofs.Common.{codes}
use Rattle.std.proofs.lemmas.Result.{IfOk-equal}
use Rattle.bm_value.specs.Tree.{str}
use Rattle.bm_msg.specs.Trees.{at, session_key}
use Rattle.bm_msg.proofs.TreeLists.{then_keys}
use Rattle.bm_msg.proofs.writing.auth_keys.Goals as goal

pub returns : goal.returns
returns c =
    IfOk-equal c.session_key.result _ _ _ c.session_key.ensures
    (then_keys _ _ _ (session_key c.args.session.now) (at (codes "username") (str c.args.username.now)) (at (codes "password") (str c.args.password.now)) c.in_ok-text_key.ensures c.in_ok-text_key-2.ensures)

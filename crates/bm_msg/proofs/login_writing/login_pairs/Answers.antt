use Rattle.std.proofs.Common.{ap, ◌∙◌, ◌++◌, List}
use Rattle.bm_value.specs.Tree.{dict, TreePair}
use Rattle.bm_value.specs.View.{pairs_of}
use Rattle.bm_msg.specs.Meaning.{auth}
use Rattle.bm_msg.specs.Trees.{keys_of, next_session_key}
use Rattle.bm_msg.proofs.login_writing.login_pairs.Goals as goal

pub returns : goal.returns
returns c =
    ap (λ (ks : List TreePair). dict (pairs_of ks))
    (c.in_ok-next_session_key.ensures
    ∙ ap (λ (ks : List TreePair). ks ++ next_session_key c.args.next.now)
    (c.in_ok-auth_keys.ensures
    ∙ ap (λ (ks : List TreePair). ks ++ keys_of (auth c.args.username.now c.args.password.now c.args.session.now)) c.in_ok-keys.ensures))

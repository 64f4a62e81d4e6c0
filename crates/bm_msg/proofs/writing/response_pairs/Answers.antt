use Rattle.std.proofs.Common.{ap, ◌∙◌, ◌++◌, ◌∷◌, [], codes, List}
use Rattle.bm_value.specs.Tree.{Tree, dict, TreePair}
use Rattle.bm_value.specs.View.{tree, pairs_of}
use Rattle.bm_msg.specs.Meaning.{response}
use Rattle.bm_msg.specs.Trees.{at, exception_key, tree_of}
use Rattle.bm_msg.proofs.writing.response_pairs.Goals as goal

pub returns : goal.returns
returns c =
    let m = c.args.message.now in
    ap (λ (ks : List TreePair). dict (pairs_of ks))
    (c.in_ok-put_exception.ensures ∙ ap (λ (ks : List TreePair). ks ++ exception_key m.exception) (c.in_ok-put.ensures ∙ ap (λ (ks : List TreePair). ks ++ at (codes "result") (tree c.in_ok-answered.answered) ∷ []) c.in_ok-keys.ensures))
    ∙ ap (λ (t : Tree). tree_of (response m.seq t m.exception)) c.in_ok-answered.ensures

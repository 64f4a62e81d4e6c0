use Rattle.std.proofs.Common.{sym, ap, ◌∙◌, ◌++◌, ◌∷◌, [], map, codes, true}
use Rattle.bm_value.specs.Tree.{Tree}
use Rattle.bm_value.specs.View.{pair_tree}
use Rattle.bm_msg.specs.Trees.{at, exception_key}
use Rattle.bm_msg.proofs.TreeLists.{bool_of}
use Rattle.bm_msg.proofs.writing.put_exception.Goals as goal

pub returns-in_ok-put : goal.returns-in_ok-put
returns-in_ok-put c =
    c.in_ok-put.ensures ∙ ap (λ (t : Tree). map pair_tree c.args.keys.now.items ++ at (codes "is_exception") t ∷ []) (bool_of true)
    ∙ ap (λ b. map pair_tree c.args.keys.now.items ++ exception_key b) (sym c.if-exception.true)

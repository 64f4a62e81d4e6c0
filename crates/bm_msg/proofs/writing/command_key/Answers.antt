use Rattle.std.proofs.Common.{◌∙◌, ap, ◌++◌, ◌∷◌, [], map, codes}
use Rattle.std.proofs.lemmas.Result.{IfOk-equal}
use Rattle.bm_value.specs.Tree.{Tree, str}
use Rattle.bm_value.specs.View.{pair_tree}
use Rattle.bm_msg.specs.Trees.{at}
use Rattle.bm_msg.proofs.TreeLists.{str_of}
use Rattle.bm_msg.proofs.writing.command_key.Goals as goal

pub returns : goal.returns
returns c =
    IfOk-equal c.put.result _ _ _ c.put.ensures (ap (λ (t : Tree). map pair_tree c.args.keys.now.items ++ at (codes "command_id") t ∷ []) (str_of c.from_string.result ∙ ap str (c.from_string.ensures ∙ c.in_ok-number.ensures.ok)))

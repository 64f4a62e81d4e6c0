use Rattle.std.proofs.Common.{◌∙◌, ap, ◌++◌, ◌∷◌, [], codes, map}
use Rattle.std.proofs.lemmas.Result.{IfOk-equal}
use Rattle.bm_value.specs.Tree.{str}
use Rattle.bm_value.specs.View.{tree, pair_tree}
use Rattle.bm_msg.specs.Trees.{at, command_key}
use Rattle.bm_msg.proofs.TreeLists.{then_keys}
use Rattle.bm_msg.proofs.writing.start_keys.Goals as goal

pub returns : goal.returns
returns c =
    IfOk-equal c.put.result _ _ _ c.put.ensures
    (then_keys _ _ _ (at (codes "args") (tree c.in_ok-args.args) ∷ []) (command_key c.args.command) (at (codes "command_name") (str c.args.name.now)) c.in_ok-command_key.ensures c.in_ok-text_key.ensures
    ∙ ap (λ t. map pair_tree c.args.keys.now.items ++ command_key c.args.command ∷ at (codes "command_name") (str c.args.name.now) ∷ at (codes "args") t ∷ []) c.in_ok-args.ensures)

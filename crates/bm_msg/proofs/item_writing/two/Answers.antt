use Rattle.std.proofs.Common.{◌∙◌, ap, map, ◌++◌, ◌∷◌, []}
use Rattle.bm_value.specs.Tree.{array}
use Rattle.bm_value.specs.View.{tree, trees_of}
use Rattle.bm_msg.proofs.TreeLists.{array_of}
use Rattle.bm_msg.proofs.item_writing.two.Goals as goal

pub returns : goal.returns
returns c =
    array_of c.push-2.new.self
    ∙ ap (λ vs. array (trees_of (map tree vs))) (c.in_ok-push-2.ensures.items ∙ ap (λ vs. vs ++ c.args.second ∷ []) (c.in_ok-push.ensures.items ∙ ap (λ vs. vs ++ c.args.first ∷ []) c.in_ok-vec.ensures.items))

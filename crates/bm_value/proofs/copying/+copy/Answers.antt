use Rattle.std.proofs.Common.{map, sym, ap, ◌∙◌}
use Rattle.bm_value.specs.Tree.{dict}
use Rattle.bm_value.specs.View.{tree, trees_of, pair_tree, pairs_of, values_in, pairs_in}
use Rattle.bm_value.proofs.Copied.{map_more, map_whole}
use Rattle.bm_value.proofs.Values.{items_tree-of, pairs_tree-of, tree-Map}
use Rattle.bm_value.proofs.Written.{items_out, pairs_out}
use Rattle.bm_value.proofs.copying.+copy.Goals as goal

pub copied-returns-in_ok-pairs_copied-in-Map : goal.copied-returns-in_ok-pairs_copied-in-Map
copied-returns-in_ok-pairs_copied-in-Map g t c =
    tree-Map c.in_ok-pairs_copied-in-Map.field-0 ∙ ap dict c.in_ok-pairs_copied-in-Map.ensures ∙ sym (tree-Map c.in-Map.pairs) ∙ sym (ap tree c.in-Map.is)

pub items_copied-loop-item-preserved : goal.items_copied-loop-item-preserved
items_copied-loop-item-preserved g t c =
    ap (map tree) c.in_ok-push.ensures.items
    ∙ map_more tree tree c.loop-item.made.items c.deref-item-items.result.now c.loop-item.item-index c.item-item.result c.in_ok-copied.field-0 c.loop-item-test.true c.item-item.is c.in_ok-copied.ensures c.loop-item.invariant

pub items_copied-returns : goal.items_copied-returns
items_copied-returns g t c =
    items_tree-of c.loop-item.made
    ∙ ap trees_of (map_whole tree _ c.deref-item-items.result.now (values_in c.args.items.now) c.loop-item.item-index c.deref-item-items.ensures.value c.loop-item-test.false c.loop-item.invariant)
    ∙ sym (items_out c.args.items.now)

pub pairs_copied-loop-pair-preserved : goal.pairs_copied-loop-pair-preserved
pairs_copied-loop-pair-preserved g t c =
    ap (map pair_tree) c.in_ok-push.ensures.items
    ∙ map_more pair_tree pair_tree c.loop-pair.made.items c.deref-pair-items.result.now c.loop-pair.pair-index c.pair-item.result c.in_ok-pair_copied.field-0 c.loop-pair-test.true c.pair-item.is c.in_ok-pair_copied.ensures c.loop-pair.invariant

pub pairs_copied-returns : goal.pairs_copied-returns
pairs_copied-returns g t c =
    pairs_tree-of c.loop-pair.made
    ∙ ap pairs_of (map_whole pair_tree _ c.deref-pair-items.result.now (pairs_in c.args.pairs.now) c.loop-pair.pair-index c.deref-pair-items.ensures.value c.loop-pair-test.false c.loop-pair.invariant)
    ∙ sym (pairs_out c.args.pairs.now)

use Rattle.std.proofs.Common.{sym, ◌∙◌, map}
use Rattle.std.specs.Option.{is_none}
use Rattle.bm_value.specs.View.{tree, trees_of}
use Rattle.bm_msg.specs.Items.{fields_of}
use Rattle.bm_msg.proofs.FieldLists.{wrong_here, wrong_behind}
use Rattle.bm_msg.proofs.items.has_wrong.Goals as goal

pub returns-then-is_wrong : goal.returns-then-is_wrong
returns-then-is_wrong g c =
    wrong_here (is_none (fields_of (trees_of (map tree c.args.parts.now)))) c.args.parts.now c.loop-part.part-index c.part-item.result c.loop-part-test.true c.part-item.is (sym c.is_wrong.ensures ∙ c.if-is_wrong.true) c.loop-part.invariant

pub loop-part-preserved : goal.loop-part-preserved
loop-part-preserved g c =
    wrong_behind (is_none (fields_of (trees_of (map tree c.args.parts.now)))) c.args.parts.now c.loop-part.part-index c.part-item.result c.loop-part-test.true c.part-item.is (sym c.is_wrong.ensures ∙ c.if-is_wrong.false) c.loop-part.invariant

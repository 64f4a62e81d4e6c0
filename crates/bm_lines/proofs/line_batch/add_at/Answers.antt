use Rattle.std.proofs.Common.{◌∙◌, ◌≡◌, ◌<◌, sym, ap, length, bytes_eq, arith}
use Rattle.std.specs.List.{position_or_len}
use Rattle.std.proofs.lemmas.Result.{IfOk-equal}
use Rattle.bm_lines.specs.Lines.{lines_of}
use Rattle.bm_lines.specs.OneOrMany.{items_of}
use Rattle.bm_lines.specs.LineBatches.{with_item}
use Rattle.bm_lines.specs.declared.line_batch.LogLines.{LogLines}
use Rattle.bm_lines.proofs.PartLists.{set_on_ok}
use Rattle.bm_lines.proofs.line_batch.add_at.Goals as goal

pub returns-in-Many-clause-ok : goal.returns-in-Many-clause-ok
returns-in-Many-clause-ok c name at =
    let items : items_of c.args.parts.now ≡ c.in-Many.parts.items = ap items_of c.in-Many.is in
    let inside : c.args.i < length c.in-Many.parts.items = omega (arith, c.requires, ap length items) in
    IfOk-equal c.add-in-Many.result _ _ _
    (set_on_ok c.add-in-Many.result c.in-Many.parts.items name (lines_of c.args.letter c.args.text.now) c.args.i c.index_mut-part.result.now c.add-in-Many.new.self
    (at ∙ ap (position_or_len (λ (q : LogLines). bytes_eq q.name name)) items) inside c.index_mut-part.ensures.value c.add-in-Many.ensures.ok)
    (ap (with_item name (lines_of c.args.letter c.args.text.now)) (sym items))

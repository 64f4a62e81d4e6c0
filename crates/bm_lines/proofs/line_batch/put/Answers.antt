use Rattle.std.proofs.Common.{◌≡◌, ◌∙◌, ◌≤◌, ap, length, bytes_eq, arith}
use Rattle.std.proofs.lemmas.Result.{IfOk-equal}
use Rattle.std.specs.List.{position_or_len}
use Rattle.bm_lines.specs.Lines.{lines_of}
use Rattle.bm_lines.specs.OneOrMany.{items_of}
use Rattle.bm_lines.specs.declared.line_batch.LogLines.{LogLines}
use Rattle.bm_lines.proofs.PartLists.{with_item-past}
use Rattle.bm_lines.proofs.line_batch.put.Goals as goal

pub returns-then-i-slice-clause-ok : goal.returns-then-i-slice-clause-ok
returns-then-i-slice-clause-ok c =
    let at : c.place-i.result ≡ position_or_len (λ q. bytes_eq q.name c.args.name.now) (items_of c.args.parts.now) =
    c.place-i.ensures
    ∙ ap (λ ps. position_or_len (λ (q : LogLines). bytes_eq q.name c.as_str.result.now) ps) c.as_slice-slice.ensures
    ∙ ap (λ n. position_or_len (λ (q : LogLines). bytes_eq q.name n) (items_of c.args.parts.now)) c.as_str.ensures.text in
    c.add_at.ensures.ok c.args.name.now at

pub returns-clause-ok : goal.returns-clause-ok
returns-clause-ok c =
    let at : c.place-i.result ≡ position_or_len (λ q. bytes_eq q.name c.args.name.now) (items_of c.args.parts.now) =
    c.place-i.ensures
    ∙ ap (λ ps. position_or_len (λ (q : LogLines). bytes_eq q.name c.as_str.result.now) ps) c.as_slice-slice.ensures
    ∙ ap (λ n. position_or_len (λ (q : LogLines). bytes_eq q.name n) (items_of c.args.parts.now)) c.as_str.ensures.text in
    let past : length (items_of c.args.parts.now) ≤ position_or_len (λ q. bytes_eq q.name c.args.name.now) (items_of c.args.parts.now) = omega (arith, at, ap length c.as_slice-slice.ensures) in
    IfOk-equal c.push.result _ _ _ c.push.ensures.ok (with_item-past (items_of c.args.parts.now) c.args.name.now (lines_of c.args.letter c.args.text.now) past)

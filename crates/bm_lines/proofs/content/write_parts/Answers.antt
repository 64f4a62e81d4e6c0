use Rattle.std.proofs.Common.{◌∙◌, ap, map, subst, string_bytes, lit<, List}
use Rattle.std.proofs.lemmas.Iterator.Splits.{YieldsList-from_str_split}
use Rattle.std.proofs.lemmas.Iterator.Consumers.{YieldsList-end}
use Rattle.bm_lines.specs.Lines.{Line}
use Rattle.bm_lines.specs.Contents.{IsContent}
use Rattle.bm_lines.proofs.Cuts.{lettered, lettered_now-map}
use Rattle.bm_lines.proofs.Parts.{parts-next}
use Rattle.bm_lines.proofs.content.write_parts.Goals as goal

pub loop-part-preserved : goal.loop-part-preserved
loop-part-preserved c =
    (tt, tt, parts-next c.args.letter c.loop-part.yielded c.in-Some.part (string_bytes c.loop-part.text) (string_bytes c.write_line.new.text) c.loop-part.begins.items c.write_begin.new.begins.items c.as_str.result.now c.as_str.ensures.value c.loop-part.invariant.2 c.in_ok-write_line.ensures c.in_ok-write_begin.ensures)

pub returns : goal.returns
returns c =
    let all = YieldsList-end (YieldsList-from_str_split 10 c.args.parts.now (lit< tt) (cc) (cc) (cc)) c.loop-part.yielded _ c.loop-part.yielded_by _ _ c.in-None.is c.next.ensures.steps in
    subst (λ (ls : List Line). IsContent ls (string_bytes c.loop-part.text) c.loop-part.begins.items) (lettered_now-map c.args.letter c.loop-part.yielded ∙ ap (map (lettered c.args.letter)) all.0) c.loop-part.invariant.2

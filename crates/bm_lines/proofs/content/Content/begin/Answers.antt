use Rattle.std.proofs.Common.{◌≡◌, ◌∙◌, ◌+◌, ◌-◌, ap, length, take, string_bytes, List, arith}
use Rattle.std.proofs.lemmas.Grind.{get_or_default_zero}
use Rattle.bm_lines.specs.Lines.{Line, content_of}
use Rattle.bm_lines.specs.Contents.{lines_in}
use Rattle.bm_lines.proofs.Contents.{counted, begins-place, end-place}
use Rattle.bm_lines.proofs.content.Content.begin.Goals as goal

pub returns-then-number-len : goal.returns-then-number-len
returns-then-number-len c =
    let begins = c.self.inside.begins.items in
    let text = string_bytes c.self.inside.text in
    let all : length begins + 1 ≡ length (lines_in begins text) = counted begins text in
    record {
      place =
          c.len-then-number-len.ensures
          ∙ c.self.inside.text.bytes.ok.0
          ∙ end-place (lines_in begins text) text begins c.args.number c.self.invariant (omega (arith, all, c.self.inside.begins.ok.0, c.len.ensures, c.if-number-len.true))
          ∙ ap (λ (ls : List Line). length (content_of (take c.args.number ls))) c.self.view_is;
    }

pub returns : goal.returns
returns c =
    let begins = c.self.inside.begins.items in
    let text = string_bytes c.self.inside.text in
    let all : length begins + 1 ≡ length (lines_in begins text) = counted begins text in
    let many : length begins ≡ c.len.result = omega (arith, c.self.inside.begins.ok.0, c.len.ensures) in
    record {
      place =
          c.index.ensures
          ∙ get_or_default_zero begins (c.args.number - 1) c.index.result.now (omega (arith, many, c.if-number-eq0.false, c.if-number-len.false))
          ∙ begins-place (lines_in begins text) text begins c.args.number c.self.invariant (omega (arith, c.if-number-eq0.false)) (omega (arith, all, many, c.if-number-len.false))
          ∙ ap (λ (ls : List Line). length (content_of (take c.args.number ls))) c.self.view_is;
    }

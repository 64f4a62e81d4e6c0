use Rattle.std.proofs.Common.{◌≡◌, sym, subst, arith}
use Rattle.bm_lines.specs.Lines.{content_of}
use Rattle.bm_lines.specs.Contents.{IsContent, lines_in}
use Rattle.bm_lines.proofs.shared.append.Goals as goal

pub append-requires-in-Many : goal.append-requires-in-Many
append-requires-in-Many c =
    let begins = c.begins.result.now in
    let lines = c.deref-in-Many-2.result.now in
    let same : c.as_str-in-Many.result.now ≡ content_of lines =
    grind (arith, c.as_str-in-Many.ensures, c.deref-in-Many.ensures, c.deref-in-Many-2.ensures) in
    subst (λ t. IsContent (lines_in begins t) t begins) (sym same)
    (subst (λ ls. IsContent ls (content_of lines) begins) (sym c.begins.ensures.lines) c.begins.ensures.places)

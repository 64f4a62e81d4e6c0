use Rattle.std.proofs.Common.{◌≡◌, ◌∙◌, ◌-◌, ap, sym, subst, length, take, drop, arith}
use Rattle.std.specs.Prelude.{IsCharBoundary}
use Rattle.bm_lines.specs.Lines.{content_of}
use Rattle.bm_lines.proofs.Contents.{boundary, place-le, slice-content}
use Rattle.bm_lines.proofs.content.Content.slice.Goals as goal

pub range-requires-clause-start_le_end : goal.range-requires-clause-start_le_end
range-requires-clause-start_le_end c =
    let le = place-le c.args.self.now c.args.from c.args.to c.requires in
    omega (arith, le, c.begin-start.ensures.place, c.begin-end.ensures.place)

pub range-requires-clause-start_boundary : goal.range-requires-clause-start_boundary
range-requires-clause-start_boundary c = λ _.
    let text : c.as_str.result.now ≡ content_of c.args.self.now = c.as_str.ensures.value ∙ c.self.invariant.exact ∙ ap content_of c.self.view_is in
    subst (λ t. IsCharBoundary t c.begin-start.result) (sym text) (subst (IsCharBoundary (content_of c.args.self.now)) (sym c.begin-start.ensures.place) (boundary c.args.self.now c.args.from))

pub range-requires-clause-end_boundary : goal.range-requires-clause-end_boundary
range-requires-clause-end_boundary c =
    let text : c.as_str.result.now ≡ content_of c.args.self.now = c.as_str.ensures.value ∙ c.self.invariant.exact ∙ ap content_of c.self.view_is in
    subst (λ t. IsCharBoundary t c.begin-end.result) (sym text) (subst (IsCharBoundary (content_of c.args.self.now)) (sym c.begin-end.ensures.place) (boundary c.args.self.now c.args.to))

pub returns : goal.returns
returns c =
    let text : c.as_str.result.now ≡ content_of c.args.self.now = c.as_str.ensures.value ∙ c.self.invariant.exact ∙ ap content_of c.self.view_is in
    c.range.ensures.value
    ∙ ap (λ t. take (c.begin-end.result - c.begin-start.result) (drop c.begin-start.result t)) text
    ∙ ap (λ n. take (c.begin-end.result - n) (drop n (content_of c.args.self.now))) c.begin-start.ensures.place
    ∙ ap (λ n. take (n - length (content_of (take c.args.from c.args.self.now))) (drop (length (content_of (take c.args.from c.args.self.now))) (content_of c.args.self.now))) c.begin-end.ensures.place
    ∙ slice-content c.args.self.now c.args.from c.args.to c.requires

use Rattle.std.proofs.Common.{rules, ap, sym, subst, ◌∙◌, ◌≡◌, ◌<◌, ◌+◌, ◌++◌, ℕ, List, Option, None, length}
use Rattle.std.specs.Prelude.{string_bytes}
use Rattle.json.specs.Print.{escape}
use Rattle.bm_lines.specs.Lines.{Line}
use Rattle.bm_http.specs.LongAnswers.{log_in, left_text}
use Rattle.bm_http.proofs.LeftTexts.{escape-some, left-lines, shortens}
use Rattle.bm_http.proofs.LongAnswers.{left-portion}
use Rattle.bm_http.proofs.long_answer.LongAnswer.next.Goals as goal

pub returns-then-self-clause-piece : goal.returns-then-self-clause-piece
returns-then-self-clause-piece g c =
    let s = c.self.inside in
    let p = c.in-Ok.portion in
    let lines : List Line = log_in s.mark.seen s.command (string_bytes s.name) in
    let none : s.front ≡ None = search rules in
    let is = rw c.as_str.ensures.value at c.in-Ok.ensures.portion in
    sym c.self.view_is
    ∙ ap (λ (f : Option (List ℕ)). left_text f lines s.at s.end s.skip s.back) none
    ∙ left-portion lines s.at p.lines s.end s.skip p.skip p.content s.back is.parts
    ∙ ap (λ (f : Option (List ℕ)). escape p.content ++ left_text f lines (s.at + p.lines) s.end p.skip s.back) (sym c.take.ensures.after)

pub returns-then-self-clause-shorter : goal.returns-then-self-clause-shorter
returns-then-self-clause-shorter g c =
    let s = c.self.inside in
    let p = c.in-Ok.portion in
    let lines : List Line = log_in s.mark.seen s.command (string_bytes s.name) in
    let none : s.front ≡ None = search rules in
    let is = rw c.as_str.ensures.value at c.in-Ok.ensures.portion in
    let parts : c.args.self.now ≡ escape p.content ++ left_text c.take.new.self lines (s.at + p.lines) s.end p.skip s.back =
    sym c.self.view_is
    ∙ ap (λ (f : Option (List ℕ)). left_text f lines s.at s.end s.skip s.back) none
    ∙ left-portion lines s.at p.lines s.end s.skip p.skip p.content s.back is.parts
    ∙ ap (λ (f : Option (List ℕ)). escape p.content ++ left_text f lines (s.at + p.lines) s.end p.skip s.back) (sym c.take.ensures.after) in
    shortens c.args.self.now (escape p.content) (left_text c.take.new.self lines (s.at + p.lines) s.end p.skip s.back) parts (escape-some p.content c.in-Ok.ensures.some)

pub returns-then-self-clause-some : goal.returns-then-self-clause-some
returns-then-self-clause-some g c =
    let s = c.self.inside in
    subst (λ (t : List ℕ). 0 < length t) c.self.view_is
    (left-lines s.front (log_in s.mark.seen s.command (string_bytes s.name)) s.at s.end s.skip s.back c.self.invariant.0 c.if-self.true)

pub returns-in-Err-clause-some : goal.returns-in-Err-clause-some
returns-in-Err-clause-some g c =
    let s = c.self.inside in
    subst (λ (t : List ℕ). 0 < length t) c.self.view_is
    (left-lines s.front (log_in s.mark.seen s.command (string_bytes s.name)) s.at s.end s.skip s.back c.self.invariant.0 c.if-self.true)

use Rattle.std.proofs.Common.{◌≡◌, ◌≤◌, ◌<◌, ◌+◌, ◌-◌, ◌++◌, [], List, ℕ, length, take, drop, sym, ap, ◌∙◌, subst, arith}
use Rattle.std.specs.Prelude.{string_bytes}
use Rattle.json.specs.Print.{escape}
use Rattle.bm_lines.specs.Lines.{Line, content_of}
use Rattle.bm_session.specs.Trace.{slice}
use Rattle.bm_lane.specs.Ends.{Watched}
use Rattle.bm_http.specs.Bodies.{contents_text}
use Rattle.bm_http.specs.LongAnswers.{escaped, log_in}
use Rattle.bm_http.proofs.LeftTexts.{back-some, body-of, front-some, left-at-first}
use Rattle.bm_http.proofs.long_answer.LongAnswer.new.Goals as goal

pub invariant_of-result : goal.invariant_of-result
invariant_of-result g c =
    let a = c.args in
    let body : c.in_ok-back.back ≡ contents_text a.id a.first [] = c.in_ok-back.ensures.ok ∙ c.in_ok-contents.ensures in
    let front : c.in_ok-front.front ≡ take 26 (contents_text a.id a.first []) = c.in_ok-front.ensures.front ∙ ap (λ (t : List ℕ). take 26 t) body in
    let back : c.split_to.new.self ≡ drop 26 (contents_text a.id a.first []) = c.in_ok-front.ensures.rest ∙ ap (λ (t : List ℕ). drop 26 t) body in
    let there : a.first + a.count ≤ length (log_in c.mark.result.seen a.command (string_bytes a.name)) =
    subst (λ (w : Watched). a.first + a.count ≤ length (log_in w.seen a.command (string_bytes a.name))) (sym c.mark.ensures) c.requires.there in (
      left-at-first (log_in c.mark.result.seen a.command (string_bytes a.name)) a.first a.count there,
      subst (λ (t : List ℕ). 0 < length t) (sym front) (front-some a.id a.first),
      subst (λ (t : List ℕ). 0 < length t) (sym back) (back-some a.id a.first),
    )

pub returns : goal.returns
returns g c =
    let a = c.args in
    let body : c.in_ok-back.back ≡ contents_text a.id a.first [] = c.in_ok-back.ensures.ok ∙ c.in_ok-contents.ensures in
    let front : c.in_ok-front.front ≡ take 26 (contents_text a.id a.first []) = c.in_ok-front.ensures.front ∙ ap (λ (t : List ℕ). take 26 t) body in
    let back : c.split_to.new.self ≡ drop 26 (contents_text a.id a.first []) = c.in_ok-front.ensures.rest ∙ ap (λ (t : List ℕ). drop 26 t) body in
    let lines : List Line = log_in a.viewer.now.seen a.command (string_bytes a.name) in
    let left : List Line = slice (log_in c.mark.result.seen a.command (string_bytes a.name)) a.first (a.first + a.count - a.first) in
    let amount : a.first + a.count - a.first ≡ a.count = omega arith in
    let same : left ≡ slice lines a.first a.count =
    ap (λ (w : Watched). slice (log_in w.seen a.command (string_bytes a.name)) a.first (a.first + a.count - a.first)) c.mark.ensures ∙ ap (λ (n : ℕ). slice lines a.first n) amount in
    ap (λ (t : List ℕ). t ++ (escaped 0 left ++ c.split_to.new.self)) front
    ∙ ap (λ (t : List ℕ). take 26 (contents_text a.id a.first []) ++ (escaped 0 left ++ t)) back
    ∙ ap (λ (ls : List Line). take 26 (contents_text a.id a.first []) ++ (escape (content_of ls) ++ drop 26 (contents_text a.id a.first []))) same
    ∙ body-of a.id a.first (content_of (slice lines a.first a.count))

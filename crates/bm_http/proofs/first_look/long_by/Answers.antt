use Rattle.std.proofs.Common.{arith, ap, sym, subst, refl, ◌∙◌, ◌≡◌, ◌-◌, List, Option, Some, Ok, Err, inl, inr}
use Rattle.std.specs.Prelude.{min, length}
use Rattle.std.specs.Cow.{cow_str_bytes}
use Rattle.bm_lines.specs.Names.{Name}
use Rattle.bm_lines.specs.Lines.{Line, content_of}
use Rattle.bm_session.specs.Trace.{slice}
use Rattle.bm_store.specs.Book.{chunk_of}
use Rattle.bm_store.specs.declared.chunk.Chunk.{Chunk}
use Rattle.bm_lane.specs.Answers.{Answered, state_of_book}
use Rattle.bm_http.specs.Bodies.{contents_text}
use Rattle.bm_http.specs.Replies.{page}
use Rattle.bm_http.specs.LongAnswers.{log_in}
use Rattle.bm_http.proofs.LongAnswers.{lines-refused, told-some, state-known, slice-bounded}
use Rattle.bm_http.proofs.first_look.long_by.Goals as goal

pub returns-in-Err-clause-shown : goal.returns-in-Err-clause-shown
returns-in-Err-clause-shown g c =
    let a = c.args in
    let seen = c.state.new.self.seen in
    let answer = rw (c.in-Err.is, c.as_str.ensures.value) at c.state.ensures.answer in (
      Err c.in-Err.refused,
      elim answer [
        | inl h ↦ inl (cc h)
        | inr h ↦ inr (lines-refused seen a.command (cow_str_bytes a.name) a.span.offset a.span.limit c.in-Err.refused h)
      ],
      refl,
    )

pub returns-clause-shown : goal.returns-clause-shown
returns-clause-shown g c =
    let a = c.args in
    let seen = c.state.new.self.seen in
    let name : Name = cow_str_bytes a.name in
    let lines : List Line = log_in seen a.command name in
    let whole : Chunk = chunk_of a.span.offset (slice lines a.span.offset a.span.limit) in
    let answer = rw (c.in-Ok.is, c.as_str.ensures.value) at c.state.ensures.answer in
    let is : state_of_book seen a.command name ≡ Some c.in-Ok.state =
    elim answer [ inl h ↦ absurd (cc h) | inr h ↦ told-some (state_of_book seen a.command name) c.in-Ok.state h ] in
    let known = state-known seen a.command name a.span.offset a.span.limit c.in-Ok.state is in
    let total : c.in-Ok.state.lines ≡ length lines = omega (arith, known.1, c.if-state.false) in
    let count : c.min-count.result ≡ min a.span.limit (c.in-Ok.state.lines - a.span.offset) = rw c.saturating_sub.ensures at c.min-count.ensures in
    let same = slice-bounded lines a.span.offset a.span.limit c.min-count.result c.in-Ok.state.lines total count in
    let text = rw c.in_ok-name.ensures.ok at c.in_ok-answer.ensures in (
      Ok whole,
      inr (subst (λ (o : Option Chunk). Answered o (Ok whole)) (sym known.0) (inl refl)),
      ap page (text ∙ ap (λ (ls : List Line). contents_text a.id a.span.offset (content_of ls)) (sym same)),
    )

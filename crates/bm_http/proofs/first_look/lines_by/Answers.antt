use Rattle.std.proofs.Common.{rules, refl, ◌≡◌, inl, inr, true, Ok, Err}
use Rattle.std.specs.Cow.{cow_str_bytes}
use Rattle.bm_lines.specs.Names.{Name}
use Rattle.bm_store.specs.Book.{book}
use Rattle.bm_store.specs.Portions.{LooksAtPortion}
use Rattle.bm_http.proofs.LongAnswers.{a_chunk, portion-refused, portion-whole}
use Rattle.bm_http.proofs.first_look.lines_by.Goals as goal

pub returns-in-Err-clause-shown : goal.returns-in-Err-clause-shown
returns-in-Err-clause-shown g c =
    let a = c.args in
    let seen = c.portion.new.self.seen in
    let answer = rw (c.in-Err.is, c.as_str.ensures.value) at c.portion.ensures.answer in (
      Err c.in-Err.refused,
      elim answer [
        | inl h ↦ inl (cc h)
        | inr h ↦ inr (portion-refused seen a.command (cow_str_bytes a.name) a.span.offset a.span.limit 0 65536 c.in-Err.refused h)
      ],
      refl,
    )

pub returns-clause-shown : goal.returns-clause-shown
returns-clause-shown g c =
    let a = c.args in
    let seen = c.portion.new.self.seen in
    let name : Name = cow_str_bytes a.name in
    let p = c.in-Ok.portion in
    let is_last : p.is_last ≡ true = search rules in
    let answer = rw (c.in-Ok.is, c.as_str.ensures.value) at c.portion.ensures.answer in
    let given : LooksAtPortion (book seen) a.command name a.span.offset a.span.limit 0 65536 (Ok p) = elim answer [ inl h ↦ absurd (cc h) | inr h ↦ h ] in (
      a_chunk a.span.offset p.lines p.content,
      inr (portion-whole seen a.command name a.span.offset a.span.limit 65536 p is_last given),
      refl,
    )

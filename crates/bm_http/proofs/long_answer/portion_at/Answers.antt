use Rattle.std.proofs.Common.{rules, ◌≡◌, inl, inr, true, Ok}
use mathlib.Core.List.{IsPrefix}
use Rattle.bm_store.specs.Book.{book}
use Rattle.bm_store.specs.Portions.{LooksAtPortion}
use Rattle.bm_http.proofs.LongAnswers.{portion-given, portion-stays}
use Rattle.bm_http.proofs.long_answer.portion_at.Goals as goal

pub returns-clause-portion : goal.returns-clause-portion
returns-clause-portion g c =
    let a = c.args in
    let seen = c.portion.new.self.seen in
    let p = c.in-Ok.portion in
    let answered : LooksAtPortion (book seen) a.command a.name.now a.at a.count a.skip 65536 (Ok p) =
    elim (rw c.in-Ok.is at c.portion.ensures.answer) [ inl h ↦ absurd (cc h) | inr h ↦ h ] in
    let has : c.has_seen.result ≡ true = search rules in
    let begins : IsPrefix a.mark.now.seen seen = (c.has_seen.ensures has).1 in
    portion-stays a.mark.now.seen seen a.command a.name.now a.at a.count a.skip 65536 p begins c.requires (portion-given seen a.command a.name.now a.at a.count a.skip 65536 p answered)

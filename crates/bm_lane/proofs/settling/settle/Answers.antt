use Rattle.std.proofs.Common.{◌≡◌, List, ap, sym, ◌∙◌, subst, true}
use Rattle.bm_session.specs.declared.item.Item.{Item}
use Rattle.bm_session.specs.Trace.{items, was_taken}
use Rattle.bm_store.specs.Kept.{logs_in}
use Rattle.bm_store.specs.Book.{book}
use Rattle.bm_store.proofs.Books.{books_have_the_logs}
use Rattle.bm_lane.specs.Additions.{Showing}
use Rattle.bm_lane.specs.Ends.{Heard, Watched, AllBegin, seen_counts}
use Rattle.bm_lane.proofs.Kept.{kept_is_book}
use Rattle.bm_lane.proofs.settling.settle.Goals as goal

pub returns-in-Ok-join-clause-trace : goal.returns-in-Ok-join-clause-trace
returns-in-Ok-join-clause-trace g c = c.into_trace.ensures.events ∙ c.in-Ok-join.ensures.0 ∙ ap (λ (r : Heard). r.trace) c.loop.invariant.reader

pub returns-in-Ok-join-clause-taken : goal.returns-in-Ok-join-clause-taken
returns-in-Ok-join-clause-taken g c = ap was_taken c.into_trace.ensures.events ∙ c.into_trace.ensures.taken

pub returns-in-Ok-join-clause-book : goal.returns-in-Ok-join-clause-book
returns-in-Ok-join-clause-book g c =
    let t = c.args.ends.reader.trace in
    let j = c.in-Ok-join.ensures in
    let same : c.in-Ok-join.session.trace ≡ t = j.0 ∙ ap (λ (r : Heard). r.trace) c.loop.invariant.reader in
    let all : c.count_seen.new.publisher.shown ≡ items t = ap (λ (p : Showing). p.shown) c.count_seen.ensures.same ∙ j.1 ∙ ap (λ (r : Heard). items r.trace) c.loop.invariant.reader in
    let whole : logs_in c.end.result ≡ book (items t) = ap logs_in c.end.ensures ∙ kept_is_book c.count_seen.new.publisher.shown ∙ ap book all in
    let taken : was_taken t ≡ true = sym (ap was_taken same) ∙ c.into_trace.ensures.taken in
    (whole ∙ books_have_the_logs t taken, whole)

pub returns-in-Ok-join-clause-seen : goal.returns-in-Ok-join-clause-seen
returns-in-Ok-join-clause-seen g c =
    let i = c.loop.invariant in
    let j = c.in-Ok-join.ensures in
    let s = c.count_seen.ensures in
    let v = c.as_slice.ensures.value in
    let all : c.in-Ok-join.publisher.shown ≡ items c.args.ends.reader.trace = j.1 ∙ ap (λ (r : Heard). items r.trace) i.reader in (
      s.seen ∙ ap seen_counts v,
      subst (λ (l : List Item). AllBegin l c.args.ends.viewers.items) all (subst (λ (vs : List Watched). AllBegin c.in-Ok-join.publisher.shown vs) v s.begin),
    )

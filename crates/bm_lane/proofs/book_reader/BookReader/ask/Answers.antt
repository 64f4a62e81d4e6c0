use Rattle.std.proofs.Common.{List, ap, ◌∙◌, subst}
use mathlib.Core.List.{IsPrefix}
use Rattle.bm_session.specs.declared.item.Item.{Item}
use Rattle.bm_lane.specs.BookReaders.{Looked}
use Rattle.bm_lane.proofs.book_reader.BookReader.ask.Goals as goal

pub returns : goal.returns
returns g c =
    let b = c.in_ok-front.ensures in
    let more = b.2 c.self.inside.front c.self.invariant.0 in (
      more.0 ∙ ap (λ (r : Looked). r.history) c.self.view_is,
      subst (λ (l : List Item). IsPrefix l c.in_ok-front.field-0.front.log) (ap (λ (r : Looked). r.seen) c.self.view_is) more.1,
      b.3,
    )

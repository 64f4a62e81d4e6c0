use Rattle.std.proofs.Common.{◌≡◌, ◌++◌, [], take, refl, sym, ap, ◌∙◌}
use Rattle.std.proofs.lemmas.List.{append-nil}
use Rattle.std.specs.Str.Lossy.{utf8_lossy}
use Rattle.bm_work.specs.Cuts.{shown}
use Rattle.bm_work.proofs.Pieces.{shown-more, left-more, is_uncut}
use Rattle.bm_work.proofs.assembler.push_texts.Goals as goal

pub loop-end-preserved : goal.loop-end-preserved
loop-end-preserved c =
    let bytes = c.loop-end.rest.now in
    let end = sym c.in-Some.ensures.end in
    let text : c.in_ok-decoded.field-0 ≡ utf8_lossy (take c.in-Some.end bytes) = cc (c.in_ok-decoded.ensures, c.split_at.ensures.front) in
    let more = shown-more c.loop-end.texts.items c.in_ok-decoded.field-0 bytes c.in-Some.end text end in (
      rw (c.in_ok-push.ensures.items, c.split_at.ensures.back) (more ∙ c.loop-end.invariant.0),
      rw c.split_at.ensures.back (left-more bytes c.in-Some.end end ∙ c.loop-end.invariant.1),
    )

pub returns-clause-texts : goal.returns-clause-texts
returns-clause-texts c =
    let uncut = is_uncut 0 [] c.loop-end.rest.now refl (sym c.in_default.ensures.end) in
    let texts = c.loop-end.texts.items in
    sym (append-nil texts) ∙ (ap (λ ts. texts ++ shown ts) (sym uncut.texts) ∙ c.loop-end.invariant.0)

pub returns-clause-left : goal.returns-clause-left
returns-clause-left c =
    let uncut = is_uncut 0 [] c.loop-end.rest.now refl (sym c.in_default.ensures.end) in
    sym uncut.left ∙ c.loop-end.invariant.1

use Rattle.std.proofs.Common.{◌≡◌, ◌++◌, [], take, length, Some, None, refl, ap, ◌∙◌}
use Rattle.std.specs.Str.Lossy.{utf8_lossy}
use Rattle.bm_work.specs.Cuts.{first_end, shown, texts_of, left_after}
use Rattle.bm_work.specs.Assembling.{Assembling}
use Rattle.bm_work.proofs.Pieces.{none-texts, none-left, none-unended, some-texts, some-left, unended-left, unended-empty}
use Rattle.bm_work.proofs.assembler.Assembler.feed.Goals as goal

pub invariant_of-self-in_default : goal.invariant_of-self-in_default
invariant_of-self-in_default c =
    let kept = c.self.inside.kept.items in
    let end : first_end (length kept) c.args.piece.now ≡ None = cc (c.in_default.ensures.end, c.len.ensures, c.self.inside.kept.ok.0) in
    rw c.in_ok-extend_from_slice.ensures.items (none-unended kept c.args.piece.now c.self.invariant end)

pub returns-in_default-clause-texts : goal.returns-in_default-clause-texts
returns-in_default-clause-texts c =
    let kept = c.self.inside.kept.items in
    let end : first_end (length kept) c.args.piece.now ≡ None = cc (c.in_default.ensures.end, c.len.ensures, c.self.inside.kept.ok.0) in
    c.new-texts.ensures.items
    ∙ (none-texts kept c.args.piece.now c.self.invariant end ∙ ap (λ (a : Assembling). shown (texts_of (a.kept ++ c.args.piece.now))) c.self.view_is)

pub returns-in_default-clause-kept : goal.returns-in_default-clause-kept
returns-in_default-clause-kept c =
    let kept = c.self.inside.kept.items in
    let end : first_end (length kept) c.args.piece.now ≡ None = cc (c.in_default.ensures.end, c.len.ensures, c.self.inside.kept.ok.0) in
    let left = none-left kept c.args.piece.now c.self.invariant end in
    rw (c.in_ok-extend_from_slice.ensures.items, left, ← c.self.view_is) refl

pub invariant_of-self-2 : goal.invariant_of-self-2
invariant_of-self-2 c =
    let all : c.in_ok-self-inside.field-0.items ≡ left_after [] c.split_at.result.1.now = cc (c.in_ok-self-inside.ensures.items, c.in_ok-left.ensures.left) in
    rw all (unended-left [] c.split_at.result.1.now unended-empty)

pub returns-clause-texts : goal.returns-clause-texts
returns-clause-texts c =
    let kept = c.self.inside.kept.items in
    let piece = c.args.piece.now in
    let end : first_end (length kept) piece ≡ Some c.in-Some.end = cc (c.in-Some.ensures.end, c.len.ensures, c.self.inside.kept.ok.0) in
    let text : c.in_ok-joined.field-0 ≡ utf8_lossy (kept ++ take c.in-Some.end piece) = cc (c.in_ok-joined.ensures, c.as_slice.ensures.value, c.split_at.ensures.front) in
    rw (c.in_ok-left.ensures.texts, c.in_ok-push.ensures.items, c.new-texts.ensures.items, c.split_at.ensures.back, text)
    (some-texts kept piece c.in-Some.end c.self.invariant end ∙ ap (λ (a : Assembling). shown (texts_of (a.kept ++ piece))) c.self.view_is)

pub returns-clause-kept : goal.returns-clause-kept
returns-clause-kept c =
    let kept = c.self.inside.kept.items in
    let piece = c.args.piece.now in
    let end : first_end (length kept) piece ≡ Some c.in-Some.end = cc (c.in-Some.ensures.end, c.len.ensures, c.self.inside.kept.ok.0) in
    let left = some-left kept piece c.in-Some.end c.self.invariant end in
    rw (c.in_ok-self-inside.ensures.items, c.in_ok-left.ensures.left, c.split_at.ensures.back, left, ← c.self.view_is) refl

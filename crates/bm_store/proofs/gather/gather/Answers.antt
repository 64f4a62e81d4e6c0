use Rattle.std.proofs.Common.{◌≡◌, ◌++◌, ◌-◌, ◌∙◌, ap, arith, get_or, Some}
use Rattle.std.specs.Prelude.{string_bytes, slice_get}
use Rattle.bm_lines.specs.Lines.{content_of}
use Rattle.bm_session.specs.Trace.{slice}
use Rattle.bm_store.specs.declared.placed.Placed.{Placed}
use Rattle.bm_store.proofs.Gathering.{get-or-some, gathering-next}
use Rattle.bm_store.proofs.gather.gather.Goals as goal

pub loop-at-preserved : goal.loop-at-preserved
loop-at-preserved c =
    let blocks = c.args.blocks.now in
    let i = c.loop-at.at in
    let here : Placed = get_or blocks i c.index-blocks-at.result in
    let at : slice_get blocks i ≡ Some here = get-or-some blocks i c.index-blocks-at.result c.loop-at-test.true in
    let grown : string_bytes c.push_str.new.self ≡ string_bytes c.loop-at.out ++ content_of (slice here.block c.loop-at.skip c.loop-at.left) =
    c.in_ok-push_str.ensures.bytes ∙ ap (λ t. string_bytes c.loop-at.out ++ t) c.part.ensures in
    let ahead = c.saturating_sub-skip.ensures ∙ ap (λ n. c.loop-at.skip - n) c.len.ensures in
    gathering-next blocks c.args.start i here c.loop-at.skip c.loop-at.left 0 c.args.skip c.args.limit 0 c.saturating_sub-skip.result (c.loop-at.left - c.lines_of_part-left.result) 0
    (string_bytes c.loop-at.out) (string_bytes c.push_str.new.self) (string_bytes c.args.out.now) at c.loop-at.invariant grown (omega arith) ahead (ap (λ n. c.loop-at.left - n) c.lines_of_part-left.ensures)

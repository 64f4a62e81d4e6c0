use Rattle.std.proofs.Common.{rules, ◌≡◌, ◌+◌, ◌++◌, ◌-◌, ◌≤◌, ◌<◌, ◌⊎◌, ◌∙◌, ℕ, List, [], length, ap, arith, get_or, Some, None, drop, inl, inr}
use Rattle.std.specs.Prelude.{string_bytes, slice_get}
use Rattle.bm_lines.specs.Lines.{content_of}
use Rattle.bm_session.specs.Trace.{slice}
use Rattle.bm_store.specs.declared.placed.Placed.{Placed}
use Rattle.bm_store.proofs.Gathering.{get-or-some, gathering-next, whole-portion, cut-portion}
use Rattle.bm_store.proofs.portion.gather_portion.Goals.{then-loop-at-test+else-left-gt0, else-loop-at-test}
use Rattle.bm_store.proofs.portion.gather_portion.Goals as goal

pub loop-at-preserved : goal.loop-at-preserved
loop-at-preserved c =
    let blocks = c.args.blocks.now in
    let i = c.loop-at.at in
    let here : Placed = get_or blocks i c.index-blocks-at.result in
    let at : slice_get blocks i ≡ Some here = get-or-some blocks i c.index-blocks-at.result c.loop-at-test.true in
    let text = c.part-text.result.now in
    let is : text ≡ content_of (slice here.block c.loop-at.before c.loop-at.left) = c.part-text.ensures in
    let none : c.in_ok-told.field-0 ≡ None = search rules in
    let added : string_bytes c.append_part.new.out ≡ string_bytes c.loop-at.content ++ drop c.loop-at.skip text = rw none at c.in_ok-told.ensures.text in
    let told = c.saturating_sub-skip.ensures ∙ ap (λ (t : List ℕ). c.loop-at.skip - length t) is in
    let ahead = c.saturating_sub-before.ensures ∙ ap (λ n. c.loop-at.before - n) c.len.ensures in
    record {
      gathering =
          gathering-next blocks c.seek-start.result.0 i here c.loop-at.before c.loop-at.left c.loop-at.skip c.seek-start.result.1 c.args.limit c.args.skip c.saturating_sub-before.result (c.loop-at.left - c.lines_of_part-left.result) c.saturating_sub-skip.result
          (string_bytes c.loop-at.content) (string_bytes c.append_part.new.out) [] at c.loop-at.invariant.gathering (added ∙ ap (λ t. string_bytes c.loop-at.content ++ drop c.loop-at.skip t) is) told ahead (ap (λ n. c.loop-at.left - n) c.lines_of_part-left.ensures);
      short = c.in_ok-told.ensures.short;
    }

pub returns-in-Some : goal.returns-in-Some
returns-in-Some c =
    let blocks = c.args.blocks.now in
    let i = c.loop-at.at in
    let here : Placed = get_or blocks i c.index-blocks-at.result in
    let at : slice_get blocks i ≡ Some here = get-or-some blocks i c.index-blocks-at.result c.loop-at-test.true in
    let part : List ℕ = content_of (slice here.block c.loop-at.before c.loop-at.left) in
    let is : c.part-text.result.now ≡ part = c.part-text.ensures in
    let cut = rw c.in-Some.is at c.in_ok-told.ensures.text in
    let same : string_bytes c.loop-at.content ++ drop c.loop-at.skip part ≡ string_bytes c.append_part.new.out ++ drop c.in-Some.told part = rw is at cut.0 in
    let full : c.args.most < length (string_bytes c.append_part.new.out) + 4 = rw c.in-Some.is at c.in_ok-told.ensures.full in
    let some : c.loop-at.skip < length part = rw is at cut.1 in
    let inside : c.in-Some.told < length part = rw is at cut.2 in
    let whole =
    cut-portion blocks c.args.offset c.seek-start.result.0 c.seek-start.result.1 c.args.limit c.args.skip i here c.loop-at.before c.loop-at.left c.loop-at.skip c.in-Some.told c.args.most
    (string_bytes c.loop-at.content) (string_bytes c.append_part.new.out) c.seek-start.ensures.rest at c.loop-at.invariant.gathering c.in_ok-told.ensures.short full same some inside in
    rw (← c.from_string.ensures) at whole

pub returns : goal.returns
returns c =
    let done : (c.loop-at.left ≡ 0) ⊎ (length c.args.blocks.now ≤ c.loop-at.at) =
    elim c.loop-at-test.branch [
      | then-loop-at-test+else-left-gt0 w ↦ inl (search (arith, rules))
      | else-loop-at-test w ↦ inr (search (arith, rules))
    ] in
    let whole =
    whole-portion c.args.blocks.now c.args.offset c.seek-start.result.0 c.seek-start.result.1 c.args.limit c.args.skip c.loop-at.at c.loop-at.before c.loop-at.left c.loop-at.skip c.args.most
    (string_bytes c.loop-at.content) c.seek-start.ensures.rest c.loop-at.invariant.gathering c.loop-at.invariant.short done in
    rw (← c.from_string-2.ensures) at whole

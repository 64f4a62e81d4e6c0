use Rattle.std.proofs.Common.{◌≡◌, ◌<◌, ◌≤◌, ◌-◌, length, take, ◌∙◌, sym, ap, arith, Some, None}
use Rattle.std.specs.Prelude.{slice_get, position}
use Rattle.std.proofs.lemmas.Option.{get_or_from_slice_get}
use Rattle.bm_store.specs.Kept.{Named}
use Rattle.bm_store.proofs.Places.{placed_after-length}
use Rattle.bm_lines.proofs.FirstPlaces.{position-found, position-missing}
use Rattle.bm_store.proofs.Shelves.{is_named, without_block-set, without_block-remove, without_block-none}
use Rattle.bm_store.proofs.command_logs.remove_last.Goals as goal

pub returns-then-blocks-gt1 : goal.returns-then-blocks-gt1
returns-then-blocks-gt1 c =
    let at : position (is_named c.args.name.now) c.args.logs.now.items ≡ Some c.in-Some.place = sym (c.in-Some.ensures ∙ ap (λ ls. position (is_named c.args.name.now) ls) c.as_slice.ensures.value) in
    let place = position-found (is_named c.args.name.now) c.args.logs.now.items c.in-Some.place at in
    let facts : (old : Named) → slice_get c.args.logs.now.items c.in-Some.place ≡ Some old → (1 < length old.blocks) × (c.pop.new.self ≡ record { name = old.name; blocks = take (length old.blocks - 1) old.blocks }) =
    λ old g. let one : c.index.result.now ≡ old = c.index.ensures ∙ get_or_from_slice_get c.args.logs.now.items c.in-Some.place old _ g in
    let two : c.index_mut.result.now ≡ old = c.index_mut.ensures.value ∙ get_or_from_slice_get c.args.logs.now.items c.in-Some.place old _ g in
    let size : length c.blocks-in-Some.result.now ≡ length old.blocks = ap length c.blocks-in-Some.ensures ∙ placed_after-length 0 c.index.result.now.blocks ∙ ap (λ (l : Named). length l.blocks) one in
    (omega (arith, c.if-blocks-gt1.true), c.pop.ensures ∙ ap (λ (l : Named). record { name = l.name; blocks = take (length l.blocks - 1) l.blocks }) two) in
    without_block-set c.args.logs.now.items c.args.name.now c.in-Some.place c.pop.new.self place.0 place.1 facts

pub returns-else-blocks-gt1 : goal.returns-else-blocks-gt1
returns-else-blocks-gt1 c =
    let at : position (is_named c.args.name.now) c.args.logs.now.items ≡ Some c.in-Some.place = sym (c.in-Some.ensures ∙ ap (λ ls. position (is_named c.args.name.now) ls) c.as_slice.ensures.value) in
    let place = position-found (is_named c.args.name.now) c.args.logs.now.items c.in-Some.place at in
    let facts : (old : Named) → slice_get c.args.logs.now.items c.in-Some.place ≡ Some old → length old.blocks ≤ 1 =
    λ old g. let one : c.index.result.now ≡ old = c.index.ensures ∙ get_or_from_slice_get c.args.logs.now.items c.in-Some.place old _ g in
    let size : length c.blocks-in-Some.result.now ≡ length old.blocks = ap length c.blocks-in-Some.ensures ∙ placed_after-length 0 c.index.result.now.blocks ∙ ap (λ (l : Named). length l.blocks) one in
    omega (arith, c.if-blocks-gt1.false) in
    c.remove.ensures.items ∙ without_block-remove c.args.logs.now.items c.args.name.now c.in-Some.place place.0 place.1 facts

pub returns-in-None : goal.returns-in-None
returns-in-None c =
    let at : position (is_named c.args.name.now) c.args.logs.now.items ≡ None = sym (c.in-None.ensures ∙ ap (λ ls. position (is_named c.args.name.now) ls) c.as_slice.ensures.value) in
    without_block-none c.args.logs.now.items c.args.name.now (position-missing (is_named c.args.name.now) c.args.logs.now.items at)

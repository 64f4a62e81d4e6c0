use Rattle.std.proofs.Common.{◌≡◌, ◌∷◌, [], ◌++◌, ◌∙◌, sym, ap, List, Some, None}
use Rattle.std.specs.Prelude.{slice_get, position}
use Rattle.std.proofs.lemmas.Option.{get_or_from_slice_get}
use Rattle.bm_lines.specs.Lines.{Line}
use Rattle.bm_store.specs.Kept.{Named}
use Rattle.bm_lines.proofs.FirstPlaces.{position-found, position-missing}
use Rattle.bm_store.proofs.Shelves.{is_named, with_block-set, with_block-new}
use Rattle.bm_store.proofs.command_logs.add_at.Goals as goal

pub returns-in_ok-push-in-Some-clause-ok : goal.returns-in_ok-push-in-Some-clause-ok
returns-in_ok-push-in-Some-clause-ok c =
    let at : position (is_named c.args.part.now.name) c.args.logs.now.items ≡ Some c.in-Some.place = sym c.requires ∙ c.in-Some.is in
    let place = position-found (is_named c.args.part.now.name) c.args.logs.now.items c.in-Some.place at in
    let facts : (old : Named) → slice_get c.args.logs.now.items c.in-Some.place ≡ Some old → c.push.new.self ≡ record { name = old.name; blocks = old.blocks ++ c.args.part.now.block ∷ [] } =
    λ old g. let same : c.index_mut.result.now ≡ old = c.index_mut.ensures.value ∙ get_or_from_slice_get c.args.logs.now.items c.in-Some.place old _ g in
    let copied : c.in_ok-copy-in-Some.field-0 ≡ c.args.part.now.block = c.in_ok-copy-in-Some.ensures in
    c.in_ok-push-in-Some.ensures.ok
    ∙ ap (λ (x : Named). record { name = x.name; blocks = x.blocks ++ c.in_ok-copy-in-Some.field-0 ∷ [] }) same
    ∙ ap (λ (b : List Line). record { name = old.name; blocks = old.blocks ++ b ∷ [] }) copied in
    with_block-set c.args.logs.now.items c.args.part.now.name c.args.part.now.block c.in-Some.place c.push.new.self place.0 place.1 facts

pub returns-in_ok-push-in-None-clause-ok : goal.returns-in_ok-push-in-None-clause-ok
returns-in_ok-push-in-None-clause-ok c =
    let at : position (is_named c.args.part.now.name) c.args.logs.now.items ≡ None = sym c.requires ∙ c.in-None.is in
    let past = position-missing (is_named c.args.part.now.name) c.args.logs.now.items at in
    let name : c.in_ok-copy-in-None.field-0 ≡ c.args.part.now.name = c.in_ok-copy-in-None.ensures in
    let block : c.in_ok-copy-in-None-2.field-0 ≡ c.args.part.now.block = c.in_ok-copy-in-None-2.ensures in
    let new : c.in_ok-log-in-None.log ≡ record { name = c.args.part.now.name; blocks = c.args.part.now.block ∷ [] } =
    c.in_ok-log-in-None.ensures
    ∙ ap (λ n. record { name = n; blocks = c.in_ok-copy-in-None-2.field-0 ∷ [] }) name
    ∙ ap (λ (b : List Line). record { name = c.args.part.now.name; blocks = b ∷ [] }) block in
    c.in_ok-push-in-None.ensures.items
    ∙ ap (λ (l : Named). c.args.logs.now.items ++ l ∷ []) new
    ∙ sym (with_block-new c.args.logs.now.items c.args.part.now.name c.args.part.now.block past)

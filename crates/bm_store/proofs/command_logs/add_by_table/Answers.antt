use Rattle.std.proofs.Common.{rules, arith, ◌≡◌, ◌∙◌, ◌++◌, ◌∷◌, [], sym, ap, subst, length, Some, None}
use Rattle.std.proofs.lemmas.List.{length-map}
use Rattle.bm_lines.specs.Places.{HasPlaces, place_in}
use Rattle.bm_lines.proofs.FirstPlaces.{none_there, some_there}
use Rattle.bm_store.specs.Kept.{Named, names_kept}
use Rattle.bm_store.proofs.LogTables.{place-known, has_places-there, names_kept-new}
use Rattle.bm_store.proofs.command_logs.add_by_table.Goals as goal

pub add_at-requires : goal.add_at-requires
add_at-requires c =
    c.place-place.ensures ∙ ap (place_in c.args.places) c.as_str.ensures.text ∙ place-known c.args.places c.args.logs.now.items c.args.part.now.name c.requires

pub returns-then-is_some-clause-places : goal.returns-then-is_some-clause-places
returns-then-is_some-clause-places c =
    let some = some_there c.place-place.result (sym c.if-is_some.ensures) in
    let there : place_in c.args.places c.args.part.now.name ≡ Some some.0 = ap (place_in c.args.places) (sym c.as_str.ensures.text) ∙ sym c.place-place.ensures ∙ some.1 in
    has_places-there c.args.places c.args.logs.now.items c.args.part.now.name c.args.part.now.block some.0 c.requires there

pub add_at-requires-2 : goal.add_at-requires-2
add_at-requires-2 c =
    c.place-place.ensures ∙ ap (place_in c.args.places) c.as_str.ensures.text ∙ place-known c.args.places c.args.logs.now.items c.args.part.now.name c.requires

pub returns-clause-places : goal.returns-clause-places
returns-clause-places c =
    let absent : place_in c.args.places c.args.part.now.name ≡ None =
    ap (place_in c.args.places) (sym c.as_str.ensures.text) ∙ sym c.place-place.ensures ∙ none_there c.place-place.result (sym c.if-is_some.ensures) in
    let long : c.len.result ≡ length c.args.logs.now.items = search (rules, arith) in
    let size : c.len.result ≡ length (names_kept c.args.logs.now.items) = long ∙ sym (length-map c.args.logs.now.items (λ (l : Named). l.name)) in
    let added : HasPlaces c.add.new.self (names_kept c.args.logs.now.items ++ c.as_str-2.result.now ∷ []) = c.in_ok-add.ensures.ok (names_kept c.args.logs.now.items) size c.requires in
    subst (HasPlaces c.add.new.self)
    (ap (λ n. names_kept c.args.logs.now.items ++ n ∷ []) c.as_str-2.ensures.text
    ∙ sym (names_kept-new c.args.places c.args.logs.now.items c.args.part.now.name c.args.part.now.block c.requires absent))
    added

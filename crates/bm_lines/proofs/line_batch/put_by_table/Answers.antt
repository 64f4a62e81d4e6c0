use Rattle.std.proofs.Common.{◌≡◌, ◌∙◌, ◌<◌, ◌++◌, ◌∷◌, [], sym, ap, subst, length, bytes_eq, Some, None}
use Rattle.std.specs.List.{position_or_len}
use Rattle.bm_lines.specs.Lines.{lines_of}
use Rattle.bm_lines.specs.OneOrMany.{items_of}
use Rattle.bm_lines.specs.LineBatches.{names_of}
use Rattle.bm_lines.specs.Places.{HasPlaces, place_in}
use Rattle.bm_lines.proofs.PartLists.{with_item-past}
use Rattle.bm_lines.proofs.PartTables.{place-found, place-missing, names_of-there, names_of-new, length-names}
use Rattle.bm_lines.proofs.line_batch.put_by_table.Goals as goal

pub returns-in-Some-clause-ok : goal.returns-in-Some-clause-ok
returns-in-Some-clause-ok c =
    let there : place_in c.args.places c.args.name.now ≡ Some c.in-Some.i = ap (place_in c.args.places) (sym c.as_str.ensures.text) ∙ sym c.place.ensures ∙ c.in-Some.is in
    let at = place-found c.args.places (items_of c.args.parts.now) c.args.name.now c.in-Some.i c.requires there in
    c.in_ok-add_at.ensures.ok c.args.name.now at.0

pub returns-in-Some-clause-places : goal.returns-in-Some-clause-places
returns-in-Some-clause-places c =
    let there : place_in c.args.places c.args.name.now ≡ Some c.in-Some.i = ap (place_in c.args.places) (sym c.as_str.ensures.text) ∙ sym c.place.ensures ∙ c.in-Some.is in
    let at = place-found c.args.places (items_of c.args.parts.now) c.args.name.now c.in-Some.i c.requires there in
    let inside : position_or_len (λ p. bytes_eq p.name c.args.name.now) (items_of c.args.parts.now) < length (items_of c.args.parts.now) = subst (λ n. n < length (items_of c.args.parts.now)) at.0 at.1 in
    subst (HasPlaces c.args.places) (sym (names_of-there (items_of c.args.parts.now) c.args.name.now (lines_of c.args.letter c.args.text.now) inside)) c.requires

pub returns-clause-ok : goal.returns-clause-ok
returns-clause-ok c =
    let absent : place_in c.args.places c.args.name.now ≡ None = ap (place_in c.args.places) (sym c.as_str.ensures.text) ∙ sym c.place.ensures ∙ c.in_default.is in
    let past = place-missing c.args.places (items_of c.args.parts.now) c.args.name.now c.requires absent in
    c.in_ok-push.ensures.ok ∙ with_item-past (items_of c.args.parts.now) c.args.name.now (lines_of c.args.letter c.args.text.now) past

pub returns-clause-places : goal.returns-clause-places
returns-clause-places c =
    let absent : place_in c.args.places c.args.name.now ≡ None = ap (place_in c.args.places) (sym c.as_str.ensures.text) ∙ sym c.place.ensures ∙ c.in_default.is in
    let past = place-missing c.args.places (items_of c.args.parts.now) c.args.name.now c.requires absent in
    let size : length c.as_slice.result.now ≡ length (names_of (items_of c.args.parts.now)) = ap length c.as_slice.ensures ∙ sym (length-names (items_of c.args.parts.now)) in
    let added : HasPlaces c.add.new.self (names_of (items_of c.args.parts.now) ++ c.as_str-2.result.now ∷ []) = c.in_ok-add.ensures.ok (names_of (items_of c.args.parts.now)) size c.requires in
    subst (HasPlaces c.add.new.self)
    (ap (λ n. names_of (items_of c.args.parts.now) ++ n ∷ []) c.as_str-2.ensures.text
    ∙ sym (names_of-new (items_of c.args.parts.now) c.args.name.now (lines_of c.args.letter c.args.text.now) past))
    added

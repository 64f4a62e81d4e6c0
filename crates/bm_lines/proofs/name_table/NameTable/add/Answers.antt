use Rattle.std.proofs.Common.{◌≡◌, ◌∙◌, sym, ap, None, Some, string_bytes}
use Rattle.std.specs.BTreeMap.{get_by_text}
use Rattle.std.specs.Map.{update}
use Rattle.std.specs.Prelude.{bytes_eq}
use Rattle.std.proofs.lemmas.Map.Text.{btree_map_updates_text}
use Rattle.bm_lines.specs.Places.{place_in}
use Rattle.bm_lines.proofs.FirstPlaces.{has_places-added, has_places-again, none_there, some_there}
use Rattle.bm_lines.proofs.name_table.NameTable.add.Goals as goal

pub returns-in_ok-insert-clause-ok : goal.returns-in_ok-insert-clause-ok
returns-in_ok-insert-clause-ok c names at has =
    let absent : place_in c.args.self.now c.args.name.now ≡ None = sym c.place.ensures ∙ none_there c.place.result c.if-is_none.ensures in
    let key : string_bytes c.in_ok-key.key ≡ c.args.name.now = c.in_ok-key.ensures.ok in
    has_places-added c.args.self.now (record { places = record c.args.self.now.places { value = c.insert.new.self } }) names c.args.name.now c.args.place at has absent
    (λ other.
    btree_map_updates_text (string_bytes c.in_ok-key.key) c.deref_mut.result.now c.insert.new.self _ c.in_ok-insert.ensures.updates other
    ∙ ap (λ m. update bytes_eq (get_by_text m) (string_bytes c.in_ok-key.key) (Some c.args.place) other) c.deref_mut.ensures.value
    ∙ ap (λ n. update bytes_eq (place_in c.args.self.now) n (Some c.args.place) other) key)

pub returns-else-is_none-clause-ok : goal.returns-else-is_none-clause-ok
returns-else-is_none-clause-ok c names at has =
    let there = some_there c.place.result c.if-is_none.ensures in
    has_places-again c.args.self.now names c.args.name.now there.0 has (sym c.place.ensures ∙ there.1)

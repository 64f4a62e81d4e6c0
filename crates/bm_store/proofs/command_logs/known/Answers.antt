use Rattle.std.proofs.Common.{◌≡◌, ◌∙◌, sym, Some, None}
use Rattle.bm_lines.specs.Places.{HasPlaces, place_in}
use Rattle.bm_store.specs.Kept.{names_kept}
use Rattle.bm_store.proofs.LogTables.{has_places-in, find-known, find-unknown}
use Rattle.bm_store.proofs.command_logs.known.Goals as goal

pub returns-in-Some-place : goal.returns-in-Some-place
returns-in-Some-place c =
    let has : HasPlaces c.in-Some.places (names_kept c.args.logs.now) = has_places-in c.args.places.now c.in-Some.places (names_kept c.args.logs.now) c.in-Some.is c.requires in
    let there : place_in c.in-Some.places c.args.name.now ≡ Some c.in-Some-place.place = sym c.place.ensures ∙ c.in-Some-place.is in
    c.log_at.ensures ∙ find-known c.in-Some.places c.args.logs.now c.args.name.now c.in-Some-place.place has there

pub returns-in-None : goal.returns-in-None
returns-in-None c =
    let has : HasPlaces c.in-Some.places (names_kept c.args.logs.now) = has_places-in c.args.places.now c.in-Some.places (names_kept c.args.logs.now) c.in-Some.is c.requires in
    let absent : place_in c.in-Some.places c.args.name.now ≡ None = sym c.place.ensures ∙ c.in-None.is in
    find-unknown c.in-Some.places c.args.logs.now c.args.name.now has absent

use Rattle.std.proofs.Common.{rules, refl, None, ◌≡◌, ◌↔◌, ◌<◌, Some, length, subst}
use Rattle.std.specs.Prelude.{slice_get, slice_set, MatchOption}
use Rattle.std.proofs.lemmas.Option.{slice_get_read}
use Rattle.bm_http.proofs.Placing.{place-missing, place-own, place-taken}
use Rattle.bm_http.specs.Placed.{IsMissing}
use Rattle.bm_http.proofs.lane_viewers.LaneViewers.take.Goals as goal

pub returns-clause-taken : goal.returns-clause-taken
returns-clause-taken g c =
    let places = c.self.inside.places.items in
    let lane = c.args.lane in
    let within : lane < length places = search rules in
    let found = slice_get_read places (length places) lane c.index_mut.result.now refl within c.index_mut.ensures.value in
    let is : slice_get places lane ≡ Some c.take.result = search rules in
    subst (λ ps. MatchOption c.take.result (slice_set places lane c.take.new.self ≡ ps) (λ v. (slice_get ps lane ≡ Some (Some v)) × (slice_set places lane c.take.new.self ≡ slice_set ps lane None))) c.self.view_is
    (rw c.take.ensures.after (place-taken places lane c.take.result is))

pub returns-clause-own : goal.returns-clause-own
returns-clause-own g c =
    let places = c.self.inside.places.items in
    let lane = c.args.lane in
    let within : lane < length places = search rules in
    let found = slice_get_read places (length places) lane c.index_mut.result.now refl within c.index_mut.ensures.value in
    let is : slice_get places lane ≡ Some c.take.result = search rules in
    place-own places c.self.invariant.0 lane c.take.result is

pub returns-clause-missing : goal.returns-clause-missing
returns-clause-missing g c =
    let places = c.self.inside.places.items in
    let lane = c.args.lane in
    let within : lane < length places = search rules in
    let found = slice_get_read places (length places) lane c.index_mut.result.now refl within c.index_mut.ensures.value in
    let is : slice_get places lane ≡ Some c.take.result = search rules in
    subst (λ ps. (c.take.result ≡ None) ↔ IsMissing ps lane) c.self.view_is (place-missing places lane c.take.result is within)

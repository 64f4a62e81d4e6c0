use Rattle.std.proofs.Common.{◌≡◌, ◌∙◌, ◌++◌, ◌∷◌, [], ◌&&◌, map, ap, sym, Some, vec_capacity}
use Rattle.std.proofs.lemmas.Bool.{and_parts}
use Rattle.std.proofs.lemmas.List.{map-append}
use Rattle.bm_lane.specs.declared.blank.Ends.{Ends}
use Rattle.bm_lane_actor.specs.LaneStates.{LaneView}
use Rattle.bm_lanes.specs.Dealt.{pool_of, web_viewer_of}
use Rattle.bm_lanes.proofs.Dealing.{mapped_more, counted_more, rest_is, last_is, pool_is}
use Rattle.bm_lanes.proofs.dealt_lanes.DealtLanes.add.Goals as goal

pub returns : goal.returns
returns g c done all before =
    let e = c.args.ends in
    let old = c.args.self.now in
    let left = c.pop.new.self in
    let v = c.in-Some.viewer in
    let s = c.new-state.result in
    let p = c.in-Some-new.pool in
    let w = c.new-2.result in
    let states = c.is_pushed-is_kept in
    let writers = c.is_pushed-is_written in
    let pools = c.is_pushed-is_pooled in
    let viewers = c.is_pushed-is_served in
    let four = and_parts (states.result && writers.result && pools.result) viewers.result done in
    let three = and_parts (states.result && writers.result) pools.result four.0 in
    let two = and_parts states.result writers.result three.0 in
    let split = c.in-Some.ensures.items in
    let rest = rest_is e.viewers.items left.items v split in
    let pool : p ≡ pool_of e = pool_is e p c.lane-lane.result (vec_capacity left) left.items c.in-Some-new.ensures.pool c.lane-lane.ensures c.pop.ensures.capacity rest in
    record {
      readers = mapped_more (λ (x : LaneView g.row.S.Denot). x.lane) (λ (x : Ends g.row.Y.Denot g.row.W.Denot). x.reader) old.states.items states.new.list.items s all e (states.ensures two.0) c.new-state.ensures.lane before.readers;
      writers = counted_more old.writers.items writers.new.list.items w all e (writers.ensures two.1) before.writers;
      pools = pools.ensures three.1 ∙ ap (λ ps. ps ++ p ∷ []) before.pools ∙ ap (λ x. map pool_of all ++ x ∷ []) pool ∙ sym (map-append pool_of all (e ∷ []));
      web_viewers = mapped_more Some web_viewer_of old.web_viewers.items viewers.new.list.items v all e (viewers.ensures four.1) (sym (last_is e.viewers.items left.items v split)) before.web_viewers;
    }

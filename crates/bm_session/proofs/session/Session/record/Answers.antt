use Rattle.std.proofs.Common.{◌≡◌, arith, sym, subst, ◌≤◌, ◌+◌, ◌-◌, ◌++◌, ◌∷◌, [], None, length, min, vec_len}
use Rattle.std.specs.Prelude.{vec_capacity}
use Rattle.bm_session.specs.Session.{needed}
use Rattle.bm_session.specs.Table.{IsTable, table_room}
use Rattle.bm_session.specs.Trace.{orders, refusal}
use Rattle.bm_session.proofs.States.{state-next, needed-some}
use Rattle.bm_session.proofs.Taking.{orders_le-length}
use Rattle.bm_session.proofs.session.Session.record.Goals as goal

pub take-requires-clause-orders : goal.take-requires-clause-orders
take-requires-clause-orders c =
    let events = c.self.inside.events in
    let few : orders events.items ≤ length events.items = orders_le-length events.items in
    let counted : c.self.inside.table.orders ≡ orders events.items = c.self.invariant.table.numbered in
    omega (arith, events.ok, events.small)

pub invariant_of-self : goal.invariant_of-self
invariant_of-self c =
    let old = c.self.inside.events in
    let table = c.self.inside.table in
    let event = c.args.event in
    let accepted : refusal old.items event ≡ None = rw (← c.self.view_is) at c.requires.accepted in
    let room : needed event ≤ min (vec_capacity old - vec_len old) (table_room table) = rw (← c.self.view_is) at c.requires.room in
    let some : 1 ≤ needed event = needed-some event in
    let items : c.push_reserved.new.self.items ≡ old.items ++ event ∷ [] = c.push_reserved.ensures.items in
    let len : vec_len c.push_reserved.new.self ≡ vec_len old + 1 = c.push_reserved.ensures.len in
    let cap : vec_capacity c.push_reserved.new.self ≡ vec_capacity old = c.push_reserved.ensures.capacity in
    let left : table_room table ≤ table_room c.take.new.self + 1 = c.take.ensures.room in
    let state = state-next old.items c.push_reserved.new.self.items event (min (vec_capacity old - vec_len old) (table_room table)) (min (vec_capacity c.push_reserved.new.self - vec_len c.push_reserved.new.self) (table_room c.take.new.self))
    c.self.invariant.state.taken accepted room (omega arith) items in
    record {
      state = state;
      table = subst (IsTable c.take.new.self) (sym items) (c.take.ensures.table old.items c.self.invariant.table c.self.invariant.state.taken accepted);
      places = c.take.ensures.places;
    }

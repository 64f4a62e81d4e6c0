use Rattle.std.proofs.Common.{◌≡◌, ◌∷◌, [], ◌++◌, map, Ok, sym, ap, ◌∙◌, rules, arith}
use Rattle.std.proofs.lemmas.List.{map_push}
use Rattle.bm_value.specs.View.{tree, items_tree, pair_tree, pairs_tree}
use Rattle.bm_value.specs.Reading.{value_at, items_at, pairs_at}
use Rattle.bm_value.proofs.Values.{array_read, map_read, items_tree-of, pairs_tree-of, tree-Array, tree-Map}
use Rattle.bm_value.proofs.FirstBytes.{gives_by_first, reserved_by_first, no_first}
use Rattle.bm_value.proofs.Loops.{item_read, item_refused, items_done, pair_read, pair_refused, pairs_done}
use Rattle.bm_value.proofs.reader.Reader.+read.Goals as goal

pub value-returns-in_err-first : goal.value-returns-in_err-first
value-returns-in_err-first g t c =
    let told = no_first c.args.room c.args.self.now.rest.now _ c.in_err-first.ensures in
    search rules

pub value-returns-in-Plain : goal.value-returns-in-Plain
value-returns-in-Plain g t c = gives_by_first _ c.plain.result c.args.room c.args.self.now.rest.now c.in_ok-first.first c.one.new.self.rest.now _ c.in_ok-first.ensures c.in-Plain.ensures c.plain.ensures

pub value-returns-in-Array : goal.value-returns-in-Array
value-returns-in-Array g t c = gives_by_first _ c.array.result c.args.room c.args.self.now.rest.now c.in_ok-first.first c.one.new.self.rest.now _ c.in_ok-first.ensures c.in-Array.ensures c.array.ensures

pub value-returns-in-Map : goal.value-returns-in-Map
value-returns-in-Map g t c = gives_by_first _ c.map.result c.args.room c.args.self.now.rest.now c.in_ok-first.first c.one.new.self.rest.now _ c.in_ok-first.ensures c.in-Map.ensures c.map.ensures

pub array-returns : goal.array-returns
array-returns g t c =
    array_read c.args.room c.args.size c.args.self.now.rest.now c.in_ok-count.count c.length.new.self.rest.now (items_tree c.in_ok-items.items) c.items.new.self.rest.now (omega (arith, c.if-room-eq0.false)) c.in_ok-count.ensures c.in_ok-items.ensures
    ∙ ap (λ x. Ok (x, c.items.new.self.rest.now)) (sym (tree-Array c.in_ok-items.items))

pub map-returns : goal.map-returns
map-returns g t c =
    map_read c.args.room c.args.size c.args.self.now.rest.now c.in_ok-count.count c.length.new.self.rest.now (pairs_tree c.in_ok-pairs.pairs) c.pairs.new.self.rest.now (omega (arith, c.if-room-eq0.false)) c.in_ok-count.ensures c.in_ok-pairs.ensures
    ∙ ap (λ x. Ok (x, c.pairs.new.self.rest.now)) (sym (tree-Map c.in_ok-pairs.pairs))

pub items-returns-in_err-item : goal.items-returns-in_err-item
items-returns-in_err-item g t c =
    let value = value_at c.args.room in
    let told = item_refused value _ (map tree c.items.vec.items) c.args.count c.items.counter c.items.self.rest.now (items_at value c.args.count c.args.self.now.rest.now) c.items-test.true c.in_err-item.ensures c.items.invariant in
    search rules

pub items-items-preserved : goal.items-items-preserved
items-items-preserved g t c =
    let value = value_at c.args.room in
    let pushed : map tree c.push.new.self.items ≡ map tree c.items.vec.items ++ tree c.in_ok-item.item ∷ [] = rw c.in_ok-push.ensures.items (map_push _ c.items.vec.items c.in_ok-item.item) in
    rw pushed (item_read value (map tree c.items.vec.items) c.args.count c.items.counter c.items.self.rest.now (tree c.in_ok-item.item) c.value.new.self.rest.now (items_at value c.args.count c.args.self.now.rest.now) c.items-test.true c.in_ok-item.ensures c.items.invariant)

pub items-returns : goal.items-returns
items-returns g t c =
    items_done (value_at c.args.room) (map tree c.items.vec.items) c.args.count c.items.counter c.items.self.rest.now _ c.items-test.false c.items.invariant ∙ ap (λ ts. Ok (ts, c.items.self.rest.now)) (sym (items_tree-of c.items.vec))

pub pairs-returns-in_err-pair : goal.pairs-returns-in_err-pair
pairs-returns-in_err-pair g t c =
    let value = value_at c.args.room in
    let told = pair_refused value _ (map pair_tree c.pairs.vec.items) c.args.count c.pairs.counter c.pairs.self.rest.now (pairs_at value c.args.count c.args.self.now.rest.now) c.pairs-test.true c.in_err-pair.ensures c.pairs.invariant in
    search rules

pub pairs-pairs-preserved : goal.pairs-pairs-preserved
pairs-pairs-preserved g t c =
    let value = value_at c.args.room in
    let pushed : map pair_tree c.push.new.self.items ≡ map pair_tree c.pairs.vec.items ++ pair_tree c.in_ok-pair.pair ∷ [] = rw c.in_ok-push.ensures.items (map_push _ c.pairs.vec.items c.in_ok-pair.pair) in
    rw pushed (pair_read value (map pair_tree c.pairs.vec.items) c.args.count c.pairs.counter c.pairs.self.rest.now (pair_tree c.in_ok-pair.pair) c.pair.new.self.rest.now (pairs_at value c.args.count c.args.self.now.rest.now) c.pairs-test.true c.in_ok-pair.ensures c.pairs.invariant)

pub pairs-returns : goal.pairs-returns
pairs-returns g t c =
    pairs_done (value_at c.args.room) (map pair_tree c.pairs.vec.items) c.args.count c.pairs.counter c.pairs.self.rest.now _ c.pairs-test.false c.pairs.invariant ∙ ap (λ ts. Ok (ts, c.pairs.self.rest.now)) (sym (pairs_tree-of c.pairs.vec))

pub value-returns-in-Reserved : goal.value-returns-in-Reserved
value-returns-in-Reserved g t c = reserved_by_first c.args.room c.args.self.now.rest.now c.in_ok-first.first c.one.new.self.rest.now c.in_ok-first.ensures c.in-Reserved.ensures

use Rattle.std.proofs.Common.{subst, sym, rules, arith}
use Rattle.std.proofs.lemmas.Result.{err_from_is_err_and}
use Rattle.std.specs.List.{flat_map}
use Rattle.bm_value.specs.View.{tree, pair_tree, values_in, pairs_in}
use Rattle.bm_value.specs.Writing.{Puts, written, written_pair, array_head, map_head}
use Rattle.bm_value.proofs.Written.{items_out, pairs_out, items_len, pairs_len, items_short, pairs_short, short_value_at, short_pair_at, items_text, pairs_text, puts_then, grows_then, flat_more, flat_whole}
use Rattle.bm_value.specs.Limits.{AreWellFormed, PairsAreWellFormed}
use Rattle.bm_value.proofs.Nesting.{item_within, pair_within}
use Rattle.bm_value.proofs.Formed.{formed_more, pairs_formed_more, formed_whole, pairs_formed_whole}
use Rattle.bm_value.proofs.writing.+put.Goals as goal

pub put_array-array_head-requires : goal.put_array-array_head-requires
put_array-array_head-requires g t c = omega (arith, c.len.ensures, items_len c.args.items.now, c.requires.0)

pub put_array-put_each-requires : goal.put_array-put_each-requires
put_array-put_each-requires g t c = let short = items_short c.args.items.now c.requires.1 in search rules

pub put_array-returns-clause-puts : goal.put_array-returns-clause-puts
put_array-returns-clause-puts g t c =
    subst (λ text. Puts c.put_each.result c.args.out.now.items c.put_each.new.out.items text) (items_text c.args.items.now c.len.result c.len.ensures)
    (puts_then c.put_each.result c.args.out.now.items c.array_head.new.out.items c.put_each.new.out.items (array_head c.len.result) (flat_map (λ v. written (tree v)) _) c.in_ok-array_head.ensures.ok c.put_each.ensures.puts)

pub put_each-put-requires : goal.put_each-put-requires
put_each-put-requires g t c =
    let within = item_within c.args.values.now c.deref-value-items.result.now c.loop-value.value-index c.value-item.result c.deref-value-items.ensures.value c.loop-value-test.true c.value-item.is in
    let short = short_value_at c.deref-value-items.result.now (values_in c.args.values.now) c.loop-value.value-index c.value-item.result c.deref-value-items.ensures.value c.requires c.loop-value-test.true c.value-item.is in
    search rules

pub put_each-returns-in_err-put-clause-puts : goal.put_each-returns-in_err-put-clause-puts
put_each-returns-in_err-put-clause-puts g t c =
    let p = err_from_is_err_and c.from_residual.result c.from_residual.ensures.1 in
    rw p.1 (grows_then _ c.loop-value.out.items _ _ c.loop-value.invariant.0 c.in_err-put.ensures.puts)

pub put_each-loop-value-preserved : goal.put_each-loop-value-preserved
put_each-loop-value-preserved g t c = (
  flat_more (λ v. written (tree v)) c.deref-value-items.result.now c.loop-value.value-index c.value-item.result _ _ _ c.loop-value-test.true c.value-item.is c.loop-value.invariant.0 c.in_ok-put.ensures.puts,
  formed_more c.deref-value-items.result.now c.loop-value.value-index c.value-item.result c.loop-value-test.true c.value-item.is c.loop-value.invariant.1 c.in_ok-put.ensures.formed,
)

pub put_each-returns-clause-puts : goal.put_each-returns-clause-puts
put_each-returns-clause-puts g t c = flat_whole (λ v. written (tree v)) c.deref-value-items.result.now (values_in c.args.values.now) c.loop-value.value-index _ _ c.deref-value-items.ensures.value c.loop-value-test.false c.loop-value.invariant.0

pub put_map-map_head-requires : goal.put_map-map_head-requires
put_map-map_head-requires g t c = omega (arith, c.len.ensures, pairs_len c.args.pairs.now, c.requires.0)

pub put_map-put_pairs-requires : goal.put_map-put_pairs-requires
put_map-put_pairs-requires g t c = let short = pairs_short c.args.pairs.now c.requires.1 in search rules

pub put_map-returns-clause-puts : goal.put_map-returns-clause-puts
put_map-returns-clause-puts g t c =
    subst (λ text. Puts c.put_pairs.result c.args.out.now.items c.put_pairs.new.out.items text) (pairs_text c.args.pairs.now c.len.result c.len.ensures)
    (puts_then c.put_pairs.result c.args.out.now.items c.map_head.new.out.items c.put_pairs.new.out.items (map_head c.len.result) (flat_map (λ p. written_pair (pair_tree p)) _) c.in_ok-map_head.ensures.ok c.put_pairs.ensures.puts)

pub put_pairs-put_pair-requires : goal.put_pairs-put_pair-requires
put_pairs-put_pair-requires g t c =
    let within = pair_within c.args.pairs.now c.deref-pair-items.result.now c.loop-pair.pair-index c.pair-item.result c.deref-pair-items.ensures.value c.loop-pair-test.true c.pair-item.is in
    let short = short_pair_at c.deref-pair-items.result.now (pairs_in c.args.pairs.now) c.loop-pair.pair-index c.pair-item.result c.deref-pair-items.ensures.value c.requires c.loop-pair-test.true c.pair-item.is in
    search rules

pub put_pairs-returns-in_err-put_pair-clause-puts : goal.put_pairs-returns-in_err-put_pair-clause-puts
put_pairs-returns-in_err-put_pair-clause-puts g t c =
    let p = err_from_is_err_and c.from_residual.result c.from_residual.ensures.1 in
    rw p.1 (grows_then _ c.loop-pair.out.items _ _ c.loop-pair.invariant.0 c.in_err-put_pair.ensures.puts)

pub put_pairs-loop-pair-preserved : goal.put_pairs-loop-pair-preserved
put_pairs-loop-pair-preserved g t c = (
  flat_more (λ p. written_pair (pair_tree p)) c.deref-pair-items.result.now c.loop-pair.pair-index c.pair-item.result _ _ _ c.loop-pair-test.true c.pair-item.is c.loop-pair.invariant.0 c.in_ok-put_pair.ensures.puts,
  pairs_formed_more c.deref-pair-items.result.now c.loop-pair.pair-index c.pair-item.result c.loop-pair-test.true c.pair-item.is c.loop-pair.invariant.1 c.in_ok-put_pair.ensures.formed,
)

pub put_pairs-returns-clause-puts : goal.put_pairs-returns-clause-puts
put_pairs-returns-clause-puts g t c = flat_whole (λ p. written_pair (pair_tree p)) c.deref-pair-items.result.now (pairs_in c.args.pairs.now) c.loop-pair.pair-index _ _ c.deref-pair-items.ensures.value c.loop-pair-test.false c.loop-pair.invariant.0

pub put_each-returns-clause-formed : goal.put_each-returns-clause-formed
put_each-returns-clause-formed g t c =
    subst AreWellFormed (sym (items_out c.args.values.now)) (formed_whole c.deref-value-items.result.now (values_in c.args.values.now) c.loop-value.value-index c.deref-value-items.ensures.value c.loop-value-test.false c.loop-value.invariant.1)

pub put_pairs-returns-clause-formed : goal.put_pairs-returns-clause-formed
put_pairs-returns-clause-formed g t c =
    subst PairsAreWellFormed (sym (pairs_out c.args.pairs.now)) (pairs_formed_whole c.deref-pair-items.result.now (pairs_in c.args.pairs.now) c.loop-pair.pair-index c.deref-pair-items.ensures.value c.loop-pair-test.false c.loop-pair.invariant.1)

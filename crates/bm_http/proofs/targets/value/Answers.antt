use Rattle.std.proofs.Common.{◌≡◌, option_map, rules, ap, ◌∙◌}
use Rattle.std.specs.Cow.{cow_str_bytes}
use Rattle.form_urlencoded.specs.Form.{raw_pairs}
use Rattle.form_urlencoded.specs.Parse.{pairs_left}
use Rattle.bm_http.specs.Targets.{last_value, parameter}
use Rattle.bm_http.proofs.Pairs.{last_value-end, last_value-next, option_or-none}
use Rattle.bm_http.proofs.targets.value.Goals as goal

pub loop-pair-init : goal.loop-pair-init
loop-pair-init c =
    let e : pairs_left c.into_iter-pair-iterator.result ≡ raw_pairs c.args.query.now = search rules in
    option_or-none (last_value c.args.key.now (pairs_left c.into_iter-pair-iterator.result)) ∙ ap (last_value c.args.key.now) e

pub loop-pair-preserved : goal.loop-pair-preserved
loop-pair-preserved c =
    let s = c.in-Some.ensures.steps in
    let ok = rw c.in_ok-name.was at s.0.3 in
    last_value-next c.args.key.now (pairs_left c.loop-pair.pair-iterator) s.0.0 s.0.1 (pairs_left c.next.new.self) c.as_str.result.now (cow_str_bytes c.in_ok-name.value)
    (option_map cow_str_bytes c.loop-pair.last) (option_map cow_str_bytes c.newer-last.result) (parameter c.args.key.now c.args.query.now)
    s.0.2 (c.as_str.ensures.value ∙ ok.0.2) ok.1.2 c.newer-last.ensures c.loop-pair.invariant

pub returns : goal.returns
returns c = last_value-end c.args.key.now (pairs_left c.loop-pair.pair-iterator) (option_map cow_str_bytes c.loop-pair.last) (parameter c.args.key.now c.args.query.now) c.in-None.ensures.steps.0 c.loop-pair.invariant

use Rattle.std.proofs.Common.{◌≡◌, option_map}
use Rattle.std.specs.Cow.{cow_str_bytes}
use Rattle.std.specs.Option.{option_or}
use Rattle.form_urlencoded.specs.Parse.{pairs_left}
use Rattle.bm_http.specs.Targets.{last_value, parameter}
use Rattle.bm_http.proofs.targets.value.Given as goal

abbrev pub invariant-loop-pair : goal.invariant-loop-pair
invariant-loop-pair l = option_or (last_value l.key (pairs_left l.pair-iterator)) (option_map cow_str_bytes l.last) ≡ parameter l.key l.query

use Rattle.std.proofs.Common.{◌≡◌, drop, map, nat_le, sum_by, length}
use Rattle.toml.specs.View.{view}
use Rattle.bm_config.specs.Config.{texts_of}
use Rattle.bm_config.proofs.words.fit.Given as goal

abbrev pub invariant-loop-value : goal.invariant-loop-value
invariant-loop-value l =
    nat_le (sum_by length (texts_of (map view l.values))) l.most
    ≡ nat_le (sum_by length (texts_of (map view (drop l.value-index l.values)))) l.room

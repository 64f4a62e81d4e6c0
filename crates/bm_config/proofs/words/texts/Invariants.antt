use Rattle.std.proofs.Common.{◌≡◌, ◌++◌, drop, map}
use Rattle.toml.specs.View.{view}
use Rattle.bm_config.specs.Config.{texts_of}
use Rattle.bm_config.proofs.words.texts.Given as goal

abbrev pub invariant-loop-value : goal.invariant-loop-value
invariant-loop-value l =
    texts_of (map view l.values) ≡ l.words.items ++ texts_of (map view (drop l.value-index l.values))

use Rattle.std.proofs.Common.{◌≡◌, ◌++◌, drop, map}
use Rattle.toml.specs.View.{view}
use Rattle.bm_config.specs.Unknown.{in_build, in_rows}
use Rattle.bm_config.proofs.unknown.add_builds.Given as goal

abbrev pub invariant-loop-value : goal.invariant-loop-value
invariant-loop-value l =
    (l.number ≡ l.value-index)
    × (l.fn.found.items ++ in_rows in_build 0 (map view l.builds)
    ≡ l.found.items ++ in_rows in_build l.number (map view (drop l.value-index l.builds)))

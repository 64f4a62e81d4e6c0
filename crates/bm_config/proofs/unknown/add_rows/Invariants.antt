use Rattle.std.proofs.Common.{◌≡◌, ◌++◌, drop, map}
use Rattle.toml.specs.View.{view}
use Rattle.bm_config.specs.Places.{within}
use Rattle.bm_config.specs.Unknown.{in_rows, unknown_in}
use Rattle.bm_config.proofs.unknown.add_rows.Given as goal

abbrev pub invariant-loop-value : goal.invariant-loop-value
invariant-loop-value l =
    (l.number ≡ l.value-index)
    × (l.fn.found.items ++ in_rows (λ n row. unknown_in l.known (within l.key n l.place) row) 0 (map view l.rows)
    ≡ l.found.items ++ in_rows (λ n row. unknown_in l.known (within l.key n l.place) row) l.number (map view (drop l.value-index l.rows)))

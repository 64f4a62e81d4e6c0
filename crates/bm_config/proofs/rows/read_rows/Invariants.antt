use Rattle.std.proofs.Common.{◌≡◌, drop, map}
use Rattle.toml.specs.View.{view}
use Rattle.bm_config.specs.Rows.{rows, rows_after}
use Rattle.bm_config.proofs.rows.read_rows.Given as goal

abbrev pub invariant-loop-value : goal.invariant-loop-value
invariant-loop-value g l =
    rows l.fn.section (g.T.ConfigRow.row_of l.fn.known) (map view l.fn.values)
    ≡ rows_after l.fn.section (g.T.ConfigRow.row_of l.fn.known) l.made.items (map view (drop l.value-index l.fn.values))

use Rattle.std.proofs.Common.{◌≡◌, map, ◌++◌, take, drop, length}
use Rattle.bm_commands.specs.Rows.{lost}
use Rattle.bm_commands.proofs.table.lose_all.Given as goal

-- those so far are lost
abbrev pub invariant-loop-row : goal.invariant-loop-row
invariant-loop-row l =
    (l.rows ≡ map lost (take l.row-index l.fn.rows) ++ drop l.row-index l.fn.rows)
    × (length l.fn.rows ≡ length l.rows)

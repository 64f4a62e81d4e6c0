use Rattle.std.proofs.Common.{◌≡◌, take}
use Rattle.bm_commands.specs.Queues.{wake}
use Rattle.bm_commands.proofs.table.first_wake.Given as goal

-- when the first of those so far is to be looked at
abbrev pub invariant-loop-row : goal.invariant-loop-row
invariant-loop-row l = l.first ≡ wake (take l.row-index l.rows)

use Rattle.std.proofs.Common.{◌≡◌, ◌≤◌, not, take}
use Rattle.std.specs.Prelude.{vec_capacity}
use Rattle.bm_session.specs.Table.{IsTable}
use Rattle.bm_session.specs.Trace.{blocks, is_empty, log}
use Rattle.bm_session.proofs.log.walk.Given as goal

abbrev pub invariant-loop-i : goal.invariant-loop-i
invariant-loop-i l = record {
  table : IsTable l.table (take l.i l.t);
  few : l.table.orders ≤ l.i;
  places : 4 ≤ vec_capacity l.table.opened;
  found : l.found ≡ not (is_empty (blocks (take l.i l.t) l.command l.name));
  log : l.log ≡ log (take l.i l.t) l.command l.name;
}

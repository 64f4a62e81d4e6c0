use Rattle.std.proofs.Common.{◌≡◌, ◌++◌, take, drop, length, map}
use Rattle.bm_store.specs.Kept.{kept_with_end}
use Rattle.bm_store.proofs.book.end_all.Given as goal

abbrev pub invariant-loop-command : goal.invariant-loop-command
invariant-loop-command l = record {
  changed : l.commands ≡ map (kept_with_end l.results) (take l.command-index l.fn.commands) ++ drop l.command-index l.fn.commands;
  size : length l.fn.commands ≡ length l.commands;
}

use Rattle.std.proofs.Common.{◌≡◌, take, ◌^◌, ◌-◌}
use Rattle.std.specs.Prelude.{min}
use Rattle.std.specs.List.{sum_by}
use Rattle.bm_store.proofs.StdioLines.{stdio_count}
use Rattle.bm_store.proofs.book.Book.stdio_lines.Given as goal

abbrev pub invariant-loop-command : goal.invariant-loop-command
invariant-loop-command l = l.lines ≡ min (sum_by stdio_count (take l.command-index l.command-items)) (2 ^ 64 - 1)

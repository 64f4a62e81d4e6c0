use Rattle.std.proofs.Common.{◌≡◌, flat_map, string_bytes}
use Rattle.bm_operator.specs.OneLine.{shown}
use Rattle.bm_operator.proofs.names.one_line.Given as goal

abbrev pub invariant-loop-c : goal.invariant-loop-c
invariant-loop-c l = string_bytes l.line ≡ flat_map shown l.yielded

use Rattle.std.proofs.Common.{◌≡◌, ◌≤◌, length}
use Rattle.std.specs.Io.KnownBytes.{Consumes}
use Rattle.bm_replay.proofs.script.read_up_to.Given as goal

abbrev pub invariant-reads : goal.invariant-reads
invariant-reads g l = record {
  read : Consumes (g.R.Read.remaining l.fn.input) (g.R.Read.remaining l.input) l.script.items;
  few : length l.script.items ≤ l.most;
  room : length l.piece.items ≡ 65536;
}

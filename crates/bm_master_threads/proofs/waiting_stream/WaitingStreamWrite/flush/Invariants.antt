use Rattle.std.specs.Io.KnownBytes.{Keeps}
use Rattle.bm_master_threads.proofs.waiting_stream.WaitingStreamWrite.flush.Given as goal

-- no flush changed what was written
abbrev pub invariant-loop : goal.invariant-loop
invariant-loop g l = Keeps (g.S.Write.contents l.fn.self.stream) (g.S.Write.contents l.self.1.1.0)

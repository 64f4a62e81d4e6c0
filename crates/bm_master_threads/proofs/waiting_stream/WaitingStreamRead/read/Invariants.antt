use Rattle.std.specs.Io.KnownBytes.{Keeps}
use Rattle.bm_master_threads.proofs.waiting_stream.WaitingStreamRead.read.Given as goal

-- no read that would block gave a byte
abbrev pub invariant-loop : goal.invariant-loop
invariant-loop g l = Keeps (g.S.Read.remaining l.fn.self.stream) (g.S.Read.remaining l.self.1.1.0)

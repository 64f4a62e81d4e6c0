use Rattle.std.specs.Io.KnownBytes.{Keeps}
use Rattle.bm_master_threads.proofs.waiting_stream.WaitingStreamWrite.write.Given as goal

-- no write that would block took a byte
abbrev pub invariant-loop : goal.invariant-loop
invariant-loop g l = Keeps (g.S.Write.contents l.fn.self.stream) (g.S.Write.contents l.self.1.1.0)

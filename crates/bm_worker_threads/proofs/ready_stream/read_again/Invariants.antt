use Rattle.std.specs.Io.KnownBytes.{Keeps}
use Rattle.bm_worker_threads.proofs.ready_stream.read_again.Given as goal

-- no read that was interrupted gave a byte
abbrev pub invariant-loop : goal.invariant-loop
invariant-loop g l = Keeps (g.S.Read.remaining l.fn.stream) (g.S.Read.remaining l.stream)

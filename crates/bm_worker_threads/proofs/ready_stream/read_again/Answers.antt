use Rattle.std.proofs.KnownBytes.{Keeps-trans}
use Rattle.bm_worker_threads.proofs.ready_stream.read_again.Goals as goal

-- a read that failed after interrupted ones gave no byte either
pub returns-in_default-clause-bytes : goal.returns-in_default-clause-bytes
returns-in_default-clause-bytes g c = Keeps-trans _ _ _ c.loop.invariant c.in-Err.ensures.bytes

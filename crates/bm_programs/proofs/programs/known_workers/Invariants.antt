use Rattle.std.proofs.Common.{◌≡◌, map, take}
use Rattle.bm_programs.specs.WorkerPrograms.{unheard}
use Rattle.bm_programs.proofs.programs.known_workers.Given as goal

abbrev pub invariant-loop-worker : goal.invariant-loop-worker
invariant-loop-worker l = l.known.items ≡ map unheard (take l.worker-index l.workers)

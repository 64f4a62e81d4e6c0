use Rattle.std.proofs.Common.{take}
use Rattle.bm_programs.specs.WorkerPrograms.{AreProgramsOf}
use Rattle.bm_programs.proofs.programs.programs_of.Given as goal

abbrev pub invariant-loop-worker : goal.invariant-loop-worker
invariant-loop-worker l = AreProgramsOf l.master (take l.worker-index l.workers) l.programs.items

use Rattle.std.proofs.Common.{◌≡◌, ◌++◌, take, drop, length}
use Rattle.bm_programs.specs.WorkerPrograms.{all_without_process}
use Rattle.bm_programs.proofs.programs.kill_all.Given as goal

-- those so far have no process
abbrev pub invariant-loop-program : goal.invariant-loop-program
invariant-loop-program l =
    (l.programs ≡ all_without_process (take l.program-index l.fn.programs) ++ drop l.program-index l.fn.programs)
    × (length l.fn.programs ≡ length l.programs)

use Rattle.std.proofs.Common.{sym, ◌∙◌, arith}
use Rattle.std.proofs.lemmas.List.{length-set}
use Rattle.std.specs.Prelude.{option_map}
use Rattle.bm_programs.specs.WorkerPrograms.{without_process}
use Rattle.bm_programs.proofs.ProgramLists.{changed_more}
use Rattle.bm_programs.proofs.programs.kill_all.Goals as goal

pub loop-program-preserved : goal.loop-program-preserved
loop-program-preserved c = (
  changed_more (option_map without_process) c.args.programs.now c.loop-program.programs c.loop-program.program-index _ c.kill_one.new.program (omega (arith, c.loop-program.invariant.1, c.loop-program-test.true)) c.kill_one.ensures c.loop-program.invariant.0 c.loop-program.invariant.1,
  c.loop-program.invariant.1 ∙ sym (length-set c.loop-program.programs c.loop-program.program-index c.kill_one.new.program),
)

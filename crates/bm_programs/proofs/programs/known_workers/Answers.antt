use Rattle.std.proofs.Common.{◌∙◌, ap, map}
use Rattle.std.proofs.lemmas.List.{take_all}
use Rattle.bm_programs.specs.WorkerPrograms.{unheard}
use Rattle.bm_programs.proofs.programs.known_workers.Goals as goal

pub returns : goal.returns
returns c = c.loop-worker.invariant ∙ ap (map unheard) (take_all c.loop-worker.worker-index c.args.workers.now c.loop-worker-test.false)

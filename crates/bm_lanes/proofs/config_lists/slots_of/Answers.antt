use Rattle.std.proofs.Common.{◌∙◌, ap}
use Rattle.std.proofs.lemmas.List.{take_all}
use Rattle.bm_lanes.specs.ConfigLists.{slots}
use Rattle.bm_lanes.proofs.config_lists.slots_of.Goals as goal

pub returns-clause-all : goal.returns-clause-all
returns-clause-all c = c.loop-worker.invariant.all ∙ ap slots (take_all c.loop-worker.worker-index c.args.workers.now c.loop-worker-test.false)

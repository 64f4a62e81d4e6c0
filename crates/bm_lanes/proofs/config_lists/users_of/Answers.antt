use Rattle.std.proofs.Common.{◌∙◌, ap}
use Rattle.std.proofs.lemmas.List.{take_all}
use Rattle.bm_lanes.specs.ConfigLists.{users}
use Rattle.bm_lanes.proofs.config_lists.users_of.Goals as goal

pub returns : goal.returns
returns c = c.loop-worker.invariant ∙ ap users (take_all c.loop-worker.worker-index c.args.workers.now c.loop-worker-test.false)

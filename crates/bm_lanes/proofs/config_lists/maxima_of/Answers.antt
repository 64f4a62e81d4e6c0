use Rattle.std.proofs.Common.{◌∙◌, ap}
use Rattle.std.proofs.lemmas.List.{take_all}
use Rattle.bm_lanes.specs.ConfigLists.{maxima}
use Rattle.bm_lanes.proofs.config_lists.maxima_of.Goals as goal

pub returns-clause-all : goal.returns-clause-all
returns-clause-all c = c.loop-lock.invariant.all ∙ ap maxima (take_all c.loop-lock.lock-index c.args.locks.now c.loop-lock-test.false)

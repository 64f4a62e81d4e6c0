use Rattle.bm_world.proofs.Refusals.{refusals_are_not_memory}
use Rattle.bm_world.proofs.laws.refusals_are_not_memory.Goals as goal

pub returns : goal.returns
returns c = refusals_are_not_memory

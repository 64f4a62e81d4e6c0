use Rattle.bm_commands.proofs.Waiting.{standstills_end_nothing}
use Rattle.bm_commands.proofs.laws.standstills_end_nothing.Goals as goal

pub returns : goal.returns
returns c = standstills_end_nothing

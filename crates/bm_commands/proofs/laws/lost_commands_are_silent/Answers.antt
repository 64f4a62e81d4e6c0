use Rattle.bm_commands.proofs.Lawful.{lost_are_silent}
use Rattle.bm_commands.proofs.laws.lost_commands_are_silent.Goals as goal

pub returns : goal.returns
returns c = lost_are_silent

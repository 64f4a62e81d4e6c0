use Rattle.bm_commands.proofs.Fair.{turns_are_fair}
use Rattle.bm_commands.proofs.laws.turns_are_fair.Goals as goal

pub returns : goal.returns
returns c = turns_are_fair

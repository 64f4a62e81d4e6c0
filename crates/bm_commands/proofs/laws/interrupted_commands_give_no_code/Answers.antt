use Rattle.bm_commands.proofs.Lawful.{interrupted_give_no_code}
use Rattle.bm_commands.proofs.laws.interrupted_commands_give_no_code.Goals as goal

pub returns : goal.returns
returns c = interrupted_give_no_code

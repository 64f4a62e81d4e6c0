use Rattle.bm_commands.proofs.Waking.{sleeps_until_wake}
use Rattle.bm_commands.proofs.laws.ticks_wait_for_the_wake.Goals as goal

pub returns : goal.returns
returns c = sleeps_until_wake

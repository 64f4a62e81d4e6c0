use Rattle.bm_msg.proofs.Readings.{told_once}
use Rattle.bm_msg.proofs.laws.told_once.Goals as goal

pub returns : goal.returns
returns c = told_once

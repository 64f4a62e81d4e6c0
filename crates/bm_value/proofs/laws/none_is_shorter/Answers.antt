use Rattle.bm_value.proofs.Shortest.{none_is_shorter}
use Rattle.bm_value.proofs.laws.none_is_shorter.Goals as goal

pub returns : goal.returns
returns c = none_is_shorter

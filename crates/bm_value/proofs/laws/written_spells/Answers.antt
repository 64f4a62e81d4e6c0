use Rattle.bm_value.proofs.Spelled.{spelled}
use Rattle.bm_value.proofs.laws.written_spells.Goals as goal

pub returns : goal.returns
returns c = spelled

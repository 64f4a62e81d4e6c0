use Rattle.bm_value.proofs.ReadBack.{read_back}
use Rattle.bm_value.proofs.laws.written_is_read_back.Goals as goal

pub returns : goal.returns
returns c = read_back

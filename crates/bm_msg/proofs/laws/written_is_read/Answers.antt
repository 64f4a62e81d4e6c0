use Rattle.bm_msg.proofs.ReadsBack.{bytes_back}
use Rattle.bm_msg.proofs.laws.written_is_read.Goals as goal

pub returns : goal.returns
returns c = bytes_back

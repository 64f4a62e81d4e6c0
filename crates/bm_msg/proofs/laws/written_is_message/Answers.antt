use Rattle.bm_msg.proofs.ReadsBack.{message_back}
use Rattle.bm_msg.proofs.laws.written_is_message.Goals as goal

pub returns : goal.returns
returns c = message_back

use Rattle.bm_msg.specs.Limits.{outgoing_tree}
use Rattle.bm_msg.proofs.writing.write_response.Goals as goal

pub returns : goal.returns
unfolding outgoing_tree
returns c = c.write_message.ensures

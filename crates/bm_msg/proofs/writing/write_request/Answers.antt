use Rattle.bm_msg.specs.Limits.{request_tree}
use Rattle.bm_msg.proofs.writing.write_request.Goals as goal

pub returns : goal.returns
unfolding request_tree
returns c = c.request_written.ensures

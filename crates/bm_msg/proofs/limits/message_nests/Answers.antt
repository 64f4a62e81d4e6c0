use Rattle.bm_msg.specs.Limits.{outgoing, outgoing_tree}
use Rattle.bm_msg.proofs.Writable.{nests, nested}
use Rattle.bm_msg.proofs.limits.message_nests.Goals as goal

pub returns : goal.returns
unfolding outgoing_tree
returns c =
    let m = outgoing c.args.message in
    (λ h. nests m (c.parts_nest.ensures.0 h), λ h. c.parts_nest.ensures.1 (nested m h))

use Rattle.bm_msg.specs.Limits.{outgoing, outgoing_tree}
use Rattle.bm_msg.proofs.Writable.{short, short_parts}
use Rattle.bm_msg.proofs.limits.is_short_message.Goals as goal

pub returns : goal.returns
unfolding outgoing_tree
returns c =
    let m = outgoing c.args.message in
    (λ h. short m (c.parts_are_short.ensures.0 h), λ h. c.parts_are_short.ensures.1 (short_parts m h))

use Rattle.std.proofs.Common.{◌==◌, not, rules}
use Rattle.std.proofs.lemmas.Fn.{filter_same}
use Rattle.bm_work.specs.declared.sent.Sent.{Sent}
use Rattle.bm_link.proofs.resume_state.take_out.Goals as goal

pub returns : goal.returns
returns c = filter_same _ (λ (o : Sent). not (o.seq == c.args.seq)) _ (λ x b f h. search rules) _ _ c.retain.ensures.filtered

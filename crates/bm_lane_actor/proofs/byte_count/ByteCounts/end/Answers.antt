use Rattle.std.proofs.Common.{not, rules}
use Rattle.std.specs.Prelude.{◌==◌}
use Rattle.std.proofs.lemmas.Fn.{filter_same}
use Rattle.bm_lane_actor.specs.declared.byte_count.CountedCommand.{CountedCommand}
use Rattle.bm_lane_actor.proofs.byte_count.ByteCounts.end.Goals as goal

pub returns : goal.returns
returns c = filter_same _ (λ (o : CountedCommand). not (c.args.command == o.command)) _ (λ x b f h. search rules) _ _ c.retain.ensures.filtered

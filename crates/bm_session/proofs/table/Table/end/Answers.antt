use Rattle.std.proofs.Common.{not, rules}
use Rattle.std.specs.Prelude.{◌==◌}
use Rattle.std.proofs.lemmas.Fn.{filter_same}
use Rattle.bm_session.specs.declared.open.Open.{Open}
use Rattle.bm_session.proofs.table.Table.end.Goals as goal

pub returns-clause-listed : goal.returns-clause-listed
returns-clause-listed c = filter_same _ (λ (o : Open). not (c.args.entry.command == o.command)) _ (λ x b f' k. search rules) _ _ c.retain.ensures.filtered

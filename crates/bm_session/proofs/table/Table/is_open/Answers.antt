use Rattle.std.proofs.Common.{◌==◌, ◌∙◌, ap}
use Rattle.std.specs.Prelude.{is_some, find}
use Rattle.bm_session.specs.declared.open.Open.{Open}
use Rattle.bm_session.proofs.Lookups.{is_open-table}
use Rattle.bm_session.proofs.table.Table.is_open.Goals as goal

pub returns : goal.returns
returns c = λ t is.
    c.is_some.ensures
    ∙ ap (λ o. is_some o) c.with_command.ensures
    ∙ ap (λ xs. is_some (find (λ (o : Open). c.args.command == o.command) xs)) c.as_slice.ensures.value
    ∙ is_open-table c.args.self.now t c.args.command is

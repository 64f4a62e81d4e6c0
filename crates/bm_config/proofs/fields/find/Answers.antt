use Rattle.bm_config.proofs.fields.find.Goals as goal
use Rattle.toml.proofs.Views.{table_get}

pub returns : goal.returns
returns c =
    rw (← c.name.ensures) (table_get c.get.result c.name.result.now c.args.table.now.entries c.get.ensures.value)

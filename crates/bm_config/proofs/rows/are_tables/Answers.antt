use Rattle.std.proofs.Common.{◌∙◌, sym}
use Rattle.bm_config.specs.Rows.{is_table}
use Rattle.bm_config.proofs.Lists.{all_viewed}
use Rattle.bm_config.proofs.rows.are_tables.Goals as goal

pub returns : goal.returns
returns c = c.each_is_table.ensures ∙ sym (all_viewed is_table c.args.values.now)

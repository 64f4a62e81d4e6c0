use Rattle.bm_store.specs.Kept.{names_kept}
use Rattle.bm_store.proofs.LogTables.{no_table}
use Rattle.bm_store.proofs.Shelves.{have-either}
use Rattle.bm_store.proofs.command_logs.CommandLogs.add.Goals as goal

pub invariant_of-self : goal.invariant_of-self
invariant_of-self c = (
  have-either c.add_all.result c.parts-parts.result.now c.self.inside.named.items c.add_all.new.logs.items c.add_all.ensures.ok c.add_all.ensures.err c.self.invariant.0,
  no_table c.self.inside.places (names_kept c.add_all.new.logs.items) c.if-is_none.ensures,
)

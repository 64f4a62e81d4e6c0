use Rattle.std.proofs.Common.{sym}
use Rattle.bm_store.specs.Kept.{kept_with_batch}
use Rattle.bm_store.proofs.Meaning.{change_set, change_past}
use Rattle.bm_store.proofs.book.add_at.Goals as goal

pub returns-in_ok-add-clause-ok : goal.returns-in_ok-add-clause-ok
returns-in_ok-add-clause-ok c = change_set (kept_with_batch c.args.batch.now) c.args.commands.now c.args.place c.index-commands-place.result c.add.new.self c.if-place-commands.true c.in_ok-add.ensures.ok

pub returns-else-place-commands-clause-ok : goal.returns-else-place-commands-clause-ok
returns-else-place-commands-clause-ok c = sym (change_past (kept_with_batch c.args.batch.now) c.args.commands.now c.args.place c.if-place-commands.false)

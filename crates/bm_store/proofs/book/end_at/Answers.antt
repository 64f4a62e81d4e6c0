use Rattle.std.proofs.Common.{sym}
use Rattle.bm_store.specs.Kept.{kept_with_end}
use Rattle.bm_store.proofs.Meaning.{change_set, change_past}
use Rattle.bm_store.proofs.book.end_at.Goals as goal

pub returns-then-place-commands : goal.returns-then-place-commands
returns-then-place-commands c = change_set (kept_with_end c.args.results) c.args.commands.now c.args.place c.index-commands-place.result c.end.new.self c.if-place-commands.true c.end.ensures

pub returns-else-place-commands : goal.returns-else-place-commands
returns-else-place-commands c = sym (change_past (kept_with_end c.args.results) c.args.commands.now c.args.place c.if-place-commands.false)

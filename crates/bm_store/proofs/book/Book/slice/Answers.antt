use Rattle.bm_store.specs.Kept.{logs_in}
use Rattle.bm_store.proofs.Portions.{found, looked}
use Rattle.bm_store.proofs.book.Book.slice.Goals as goal

pub lines-requires : goal.lines-requires
lines-requires c = (found (logs_in c.args.self.now) c.args.k c.args.name.now c.in-Some.blocks.now c.in-Some.ensures).0

pub returns-in-Some : goal.returns-in-Some
returns-in-Some c =
    looked c.lines.result c.told.result (logs_in c.args.self.now) c.args.k c.args.name.now c.args.offset c.args.limit _
    ((found (logs_in c.args.self.now) c.args.k c.args.name.now c.in-Some.blocks.now c.in-Some.ensures).2 c.args.offset c.args.limit) c.lines.ensures c.told.ensures

use Rattle.bm_store.specs.Kept.{logs_in}
use Rattle.bm_store.proofs.Portions.{found, looked-portion}
use Rattle.bm_store.proofs.book.Book.portion.Goals as goal

pub gather_portion-requires : goal.gather_portion-requires
gather_portion-requires c = (found (logs_in c.args.self.now) c.args.k c.args.name.now c.in-Some.blocks.now c.in-Some.ensures).0

pub returns-in-Some : goal.returns-in-Some
returns-in-Some c =
    looked-portion c.gather_portion.result c.told.result (logs_in c.args.self.now) c.args.k c.args.name.now c.args.offset c.args.limit c.args.skip c.args.most _
    (found (logs_in c.args.self.now) c.args.k c.args.name.now c.in-Some.blocks.now c.in-Some.ensures).1 c.gather_portion.ensures c.told.ensures

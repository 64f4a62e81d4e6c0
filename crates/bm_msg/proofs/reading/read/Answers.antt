use Rattle.std.proofs.Common.{Ok}
use Rattle.bm_value.specs.View.{tree}
use Rattle.bm_msg.proofs.Readings.{message_read, fault_read, found_from, fault_from_reads, told_from, reads_along}
use Rattle.bm_msg.proofs.reading.read.Goals as goal

pub returns-clause-found : goal.returns-clause-found
returns-clause-found g c = found_from (tree c.args.message.now) c.by_keys.result c.by_keys.ensures

pub returns-clause-only : goal.returns-clause-only
returns-clause-only g c = λ m is. reads_along c.by_keys.result _ (Ok m) (message_read (tree c.args.message.now) m is) c.by_keys.ensures

pub returns-clause-fault : goal.returns-clause-fault
returns-clause-fault g c = fault_from_reads (tree c.args.message.now) c.by_keys.result c.by_keys.ensures

pub returns-clause-refused : goal.returns-clause-refused
returns-clause-refused g c = λ f is. told_from (tree c.args.message.now) c.by_keys.result f (fault_read (tree c.args.message.now) f is) c.by_keys.ensures

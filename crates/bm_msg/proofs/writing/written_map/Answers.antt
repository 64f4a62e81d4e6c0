use Rattle.std.proofs.Common.{subst}
use Rattle.bm_value.specs.Decoding.{IsReadBack}
use Rattle.bm_msg.proofs.TreeLists.{map_of}
use Rattle.bm_msg.proofs.writing.written_map.Goals as goal

pub returns-in-Ok-clause-back : goal.returns-in-Ok-clause-back
returns-in-Ok-clause-back c = subst IsReadBack (map_of c.args.keys) c.in-Ok.ensures.back

use Rattle.bm_lane.proofs.Relays.{sends, learns_put}
use Rattle.bm_lane.proofs.reader_end.put.Goals as goal

pub push_as-requires-clause-rule : goal.push_as-requires-clause-rule
push_as-requires-clause-rule g c = (sends _ _ _ _ c.requires.puts, learns_put _ _ c.requires.puts)

use Rattle.bm_work.proofs.Streams.{streams_join, said_grows}
use Rattle.bm_work.proofs.laws.streams_join.Goals as goal

pub returns-clause-stream : goal.returns-clause-stream
returns-clause-stream c = streams_join

pub returns-clause-said : goal.returns-clause-said
returns-clause-said c = said_grows

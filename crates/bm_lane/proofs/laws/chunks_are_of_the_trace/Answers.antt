use Rattle.bm_lane.proofs.Served.{chunks_are_of_the_trace}
use Rattle.bm_lane.proofs.laws.chunks_are_of_the_trace.Goals as goal

pub returns : goal.returns
returns c = chunks_are_of_the_trace

use Rattle.bm_lane.proofs.Picking.{placed_by_place}
use Rattle.bm_master_threads.proofs.serving.serve.Goals as goal

pub run-requires-clause-placed : goal.run-requires-clause-placed
run-requires-clause-placed g c lifetimes outlives = placed_by_place c.in-Some.blanks.items

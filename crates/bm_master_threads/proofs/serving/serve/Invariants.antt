use Rattle.bm_lane.specs.Placed.{queue_at, copy_at}
use Rattle.bm_master_threads.proofs.serving.serve.Given as goal

abbrev pub ghosts-run : goal.ghosts-run
ghosts-run g a = record { queue = λ lane. queue_at a.blanks.items lane; copy = λ lane. copy_at a.blanks.items lane }

use Rattle.std.proofs.Common.{◌≡◌, take}
use Rattle.bm_master_threads.specs.Beginnings.{board_of}
use Rattle.bm_master_threads.proofs.setup.queue_of.Given as goal

-- the first builds are on the board
abbrev pub invariant-loop-build : goal.invariant-loop-build
invariant-loop-build g l = record {
  board : l.queue.board ≡ board_of l.fn.workers l.fn.locks (take l.build-index l.builds);
  pools : l.queue.pools ≡ l.fn.pools.items;
}

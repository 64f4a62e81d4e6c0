use Rattle.std.proofs.Common.{◌≡◌, ℕ}
use Rattle.bm_worker_threads.specs.Ticks.{Asks}
use Rattle.bm_worker_threads.proofs.processes.Processes.tick.Given as goal

-- the machine was asked so often, and each time something was done
abbrev pub invariant-loop : goal.invariant-loop
invariant-loop g l = record {
  asked : (n : ℕ) × Asks l.initial.self.marks l.now_ms n l.initial.self.queues l.initial.self.parts.items
      l.self.queues l.self.parts.items;
  time : l.self.time ≡ l.initial.self.time;
  marks : l.self.marks ≡ l.initial.self.marks;
}

use Rattle.std.proofs.Common.{◌∙◌, subst, suc, rules}
use Rattle.bm_worker_threads.specs.Ticks.{AsksOnce}
use Rattle.bm_worker_threads.proofs.processes.Processes.tick.Goals as goal

-- it was asked once more
pub loop-preserved : goal.loop-preserved
loop-preserved g c = record {
  asked = (
    suc c.loop.invariant.asked.0,
    (
      c.loop.self.queues,
      c.loop.self.parts.items,
      c.loop.invariant.asked.1,
      search rules,
      subst (λ m. AsksOnce m c.now-now_ms.result c.loop.self.queues c.loop.self.parts.items c.ask.new.self.queues c.ask.new.self.parts.items) c.loop.invariant.marks c.in_ok-ask.ensures.done,
    ),
  );
  time = c.in_ok-ask.ensures.time ∙ c.loop.invariant.time;
  marks = c.in_ok-ask.ensures.marks ∙ c.loop.invariant.marks;
}

use Rattle.std.proofs.Common.{ap, refl, sym}
use Rattle.std.proofs.lemmas.Bool.{ltb-true}
use Rattle.std.proofs.lemmas.Option.{slice_get_read}
use Rattle.bm_build_queue.specs.BuildQueue.{QueueState}
use Rattle.bm_build_queue.proofs.Pools.{left_at}
use Rattle.bm_build_queue.proofs.build_queue.BuildQueue.take_viewer.Goals as goal

pub returns-clause-taken : goal.returns-clause-taken
returns-clause-taken g c =
    left_at c.self.inside.pools.items _ c.args.worker c.in_ok-pool.pool.now c.take.new.self c.take.result (ap (λ (q : QueueState). q.pools) c.self.view_is)
    (slice_get_read _ _ c.args.worker _ refl (ltb-true _ _ (sym c.in_ok-pool.ensures.item.0)) c.in_ok-pool.ensures.item.1) c.take.ensures.taken c.take.ensures.room

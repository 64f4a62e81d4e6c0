use Rattle.std.proofs.Common.{◌≡◌, All, sym, subst, ap, arith}
use Rattle.std.proofs.lemmas.List.Elements.{All-push}
use Rattle.core.specs.declared.thread.PromisedHandle.{PromisedHandle}
use Rattle.bm_lane.specs.declared.pool.Tally.{Tally}
use Rattle.bm_lane.specs.declared.pool.Within.{Within}
use Rattle.bm_lane.proofs.pool.spawn_all.Goals as goal

pub loop-worker-preserved : goal.loop-worker-preserved
loop-worker-preserved g c =
    let i = c.loop-worker.invariant in
    let p = c.push_reserved.ensures in
    let mine = ap (λ (w : Within). w.turns) c.in-Ok.ensures.ok in
    record {
      started = omega (arith, p.len, i.started);
      room = omega (arith, p.capacity, i.room);
      turns = subst (All (λ (w : PromisedHandle Tally Within). w.promise.turns ≡ c.args.turns)) (sym p.items)
          (All-push (λ (w : PromisedHandle Tally Within). w.promise.turns ≡ c.args.turns) c.loop-worker.workers.items c.in-Ok.handle i.turns mine);
    }

use Rattle.std.proofs.Common.{◌∙◌, ap, refl, sym}
use Rattle.std.proofs.lemmas.Bool.{ltb-true}
use Rattle.std.proofs.lemmas.Option.{slice_get_read}
use Rattle.bm_build_queue.specs.BuildQueue.{QueueState}
use Rattle.bm_build_queue.proofs.Pools.{back_at, given_at, lost_at, none_back}
use Rattle.bm_build_queue.proofs.Wholes.{released, whole_released}
use Rattle.bm_build_queue.proofs.build_queue.BuildQueue.release.Goals as goal

pub invariant_of-self : goal.invariant_of-self
invariant_of-self g c = whole_released _ _ c.args.number c.release.ensures.board c.self.invariant

pub returns-in_default-clause-released : goal.returns-in_default-clause-released
returns-in_default-clause-released g c = released _ _ _ c.args.number (ap (λ (q : QueueState). q.board) c.self.view_is) c.release.ensures.board

pub returns-in_default-clause-answer : goal.returns-in_default-clause-answer
returns-in_default-clause-answer g c =
    none_back c.self.inside.pools.items _ c.lane.result c.args.viewer (ap (λ (q : QueueState). q.pools) c.self.view_is) c.lane.ensures
    c.in_default.ensures.item.3

pub invariant_of-self-2 : goal.invariant_of-self-2
invariant_of-self-2 g c = whole_released _ _ c.args.number c.release.ensures.board c.self.invariant

pub returns-clause-released : goal.returns-clause-released
returns-clause-released g c = released _ _ _ c.args.number (ap (λ (q : QueueState). q.board) c.self.view_is) c.release.ensures.board

pub returns-clause-answer : goal.returns-clause-answer
returns-clause-answer g c =
    back_at c.self.inside.pools.items _ c.lane.result c.args.viewer c.in-Some.pool.now _ (ap (λ (q : QueueState). q.pools) c.self.view_is) c.lane.ensures
    (slice_get_read _ _ c.lane.result _ refl (ltb-true _ _ (sym c.in-Some.ensures.item.0)) c.in-Some.ensures.item.1) (c.is_ok.ensures.value ∙ c.give.ensures.taken)

pub returns-clause-given : goal.returns-clause-given
returns-clause-given g c = λ e.
    given_at c.self.inside.pools.items _ c.lane.result c.args.viewer c.in-Some.pool.now c.give.new.self c.give.result (ap (λ (q : QueueState). q.pools) c.self.view_is) c.lane.ensures
    (slice_get_read _ _ c.lane.result _ refl (ltb-true _ _ (sym c.in-Some.ensures.item.0)) c.in-Some.ensures.item.1) c.give.ensures.given (sym c.is_ok.ensures.value ∙ e)

pub returns-clause-lost : goal.returns-clause-lost
returns-clause-lost g c = λ e.
    lost_at c.self.inside.pools.items _ c.lane.result c.in-Some.pool.now c.give.new.self c.give.result (ap (λ (q : QueueState). q.pools) c.self.view_is)
    (slice_get_read _ _ c.lane.result _ refl (ltb-true _ _ (sym c.in-Some.ensures.item.0)) c.in-Some.ensures.item.1) c.give.ensures.unchanged (sym c.is_ok.ensures.value ∙ e)

use Rattle.std.proofs.Common.{arith}
use Rattle.bm_build_queue.proofs.Pools.{last_left, none_there, room_left, still_none}
use Rattle.bm_build_queue.proofs.viewer_pool.ViewerPool.take.Goals as goal

pub returns-clause-taken : goal.returns-clause-taken
returns-clause-taken g c = last_left c.self.inside.lane _ _ _ _ _ c.pop.result c.self.view_is c.pop.ensures.capacity c.pop.ensures.items

pub returns-clause-room : goal.returns-clause-room
returns-clause-room g c =
    room_left c.self.inside.lane _ _ _ _ c.pop.result c.self.invariant c.pop.ensures.capacity (omega (arith, c.self.inside.viewers.ok.0, c.self.inside.viewers.ok.1)) c.pop.ensures.items

pub returns-clause-empty : goal.returns-clause-empty
returns-clause-empty g c =
    none_there c.self.inside.lane _ _ _ c.pop.result _ _ _ c.self.view_is (omega (arith, c.self.inside.viewers.ok.0)) c.pop.ensures.cases

pub returns-clause-unchanged : goal.returns-clause-unchanged
returns-clause-unchanged g c =
    still_none c.self.inside.lane _ _ _ _ _ c.pop.result _ _ _ c.self.view_is c.pop.ensures.capacity (omega (arith, c.self.inside.viewers.ok.0)) (omega (arith, c.pop.new.self.ok.0)) c.pop.ensures.cases

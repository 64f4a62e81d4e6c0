use denote.Param.Send.{sendable}
use Rattle.bm_coordinator.proofs.coordinator.fn.coordinate.scope+FnOnce.call_once.Goals as goal

pub scope-requires : goal.scope-requires
scope-requires g c = let b = c.requires.1.1.1.1 in (
  search (sendable, b.0),
  (
    search (sendable, b.1),
    search (sendable, b.2, b.3),
  ),
)

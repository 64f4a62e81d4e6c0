use Rattle.std.proofs.Common.{◌≡◌, take, map}
use Rattle.bm_session.specs.Trace.{below}
use Rattle.bm_lanes.proofs.dealt_lanes.is_in_order.Given as goal

abbrev pub invariant-loop-viewer : goal.invariant-loop-viewer
invariant-loop-viewer g l = record {
  place : l.lane ≡ l.viewer-index;
  lanes : map (λ v. v.lane) (take l.viewer-index l.viewers) ≡ below l.viewer-index;
}

use Rattle.std.proofs.Common.{◌≡◌}
use Rattle.bm_session.specs.Trace.{below}
use Rattle.bm_lane_actor.proofs.mailbox.open_mailboxes.Given as goal

abbrev pub invariant-loop-lane : goal.invariant-loop-lane
invariant-loop-lane g l = record {
  handles : l.handles.items ≡ below l.lane;
  mailboxes : l.mailboxes.items ≡ below l.lane;
}

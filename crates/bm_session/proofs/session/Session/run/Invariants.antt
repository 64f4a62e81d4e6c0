use Rattle.std.proofs.Common.{◌≡◌, []}
use Rattle.bm_session.specs.Session.{ran_after, trace_after}
use Rattle.bm_session.proofs.session.Session.run.Given as goal

abbrev pub invariant-loop-event : goal.invariant-loop-event
invariant-loop-event l = record {
  trace : l.session.trace ≡ trace_after [] l.yielded;
  ran : l.ran.items ≡ ran_after [] l.yielded;
}

use Rattle.std.proofs.Common.{◌≡◌}
use Rattle.bm_msg.specs.Carried.{carried}
use Rattle.bm_session.proofs.carried.batch.Given as goal

abbrev pub invariant-loop-field : goal.invariant-loop-field
invariant-loop-field l = l.builder ≡ carried l.yielded

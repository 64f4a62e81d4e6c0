use Rattle.std.proofs.Common.{◌≡◌, take}
use Rattle.bm_msg.specs.Carried.{last_rc}
use Rattle.bm_session.proofs.carried.last_rc.Given as goal

abbrev pub invariant-loop-field : goal.invariant-loop-field
invariant-loop-field l = l.last ≡ last_rc (take l.field-index l.fields)

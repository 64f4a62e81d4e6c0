use Rattle.std.proofs.Common.{◌≡◌, take}
use Rattle.bm_msg.proofs.field.Fields.copy.Given as goal

abbrev pub invariant-loop-field : goal.invariant-loop-field
invariant-loop-field l = l.vec.items ≡ take l.field-index l.fields

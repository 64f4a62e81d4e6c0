use Rattle.std.proofs.Common.{drop}
use Rattle.bm_value.proofs.Shortness.{SameFact}
use Rattle.bm_msg.specs.Limits.{AreShortFields}
use Rattle.bm_msg.proofs.limits.each_is_short.Given as goal

-- the fields so far are short, so that the rest decide
abbrev pub invariant-loop-field : goal.invariant-loop-field
invariant-loop-field l = SameFact (AreShortFields l.fields) (AreShortFields (drop l.field-index l.fields))

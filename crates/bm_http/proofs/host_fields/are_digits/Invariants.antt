use Rattle.std.proofs.Common.{◌≡◌, length}
use Rattle.bm_http.specs.HostFields.{are_digits}
use Rattle.bm_http.proofs.host_fields.are_digits.Given as goal

abbrev pub invariant-loop-left : goal.invariant-loop-left
invariant-loop-left l = are_digits l.text ≡ are_digits l.left

abbrev pub decreases-loop-left : goal.decreases-loop-left
decreases-loop-left l = length l.left

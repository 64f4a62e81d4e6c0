use Rattle.std.proofs.Common.{◌≡◌, length}
use Rattle.bm_http.specs.HostFields.{is_named}
use Rattle.bm_http.proofs.host_fields.is_named.Given as goal

abbrev pub invariant-loop-left : goal.invariant-loop-left
invariant-loop-left l = is_named l.value ≡ is_named l.left

abbrev pub decreases-loop-left : goal.decreases-loop-left
decreases-loop-left l = length l.left

use Rattle.std.proofs.Common.{◌≡◌, ◌≤◌, length}
use Rattle.bm_http.specs.HostFields.{from_close}
use Rattle.bm_http.proofs.host_fields.from_close.Given as goal

abbrev pub invariant-loop-left : goal.invariant-loop-left
invariant-loop-left l = (from_close l.text ≡ from_close l.left) × (length l.left ≤ length l.text)

abbrev pub decreases-loop-left : goal.decreases-loop-left
decreases-loop-left l = length l.left

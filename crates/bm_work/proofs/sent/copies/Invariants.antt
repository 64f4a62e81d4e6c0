use Rattle.std.proofs.Common.{◌≡◌, take}
use Rattle.bm_work.proofs.sent.copies.Given as goal

abbrev pub invariant-loop-request : goal.invariant-loop-request
invariant-loop-request l = l.all.items ≡ take l.request-index l.requests

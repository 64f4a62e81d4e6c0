use Rattle.std.proofs.Common.{◌≡◌, ◌^◌, ◌-◌, min, take}
use Rattle.bm_work.specs.Core.{bytes_of}
use Rattle.bm_work.proofs.worker.total_bytes.Given as goal

-- the total is that of the requests before this one
abbrev pub invariant-loop-request : goal.invariant-loop-request
invariant-loop-request l = l.total ≡ min (bytes_of (take l.request-index l.requests)) (2 ^ 64 - 1)

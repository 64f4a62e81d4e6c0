-- What a worker sends again.
use Rattle.std.proofs.Common.{◌≡◌, List, Result, Ok, Err, IfOk, Vec, ap}
use Rattle.std.specs.declared.alloc.AllocError.{AllocError}
use Rattle.bm_work.specs.declared.sent.Sent.{Sent}
use Rattle.bm_work.specs.Core.{numbers}

-- copies of requests have their numbers
pub copies_numbered : {Z : Type 0} (result : Result (Vec Sent Z) AllocError) (requests : List Sent) → IfOk result (λ v. v.items ≡ requests)
    → IfOk result (λ v. numbers v.items ≡ numbers requests)
copies_numbered (Ok v) requests same = ap numbers same
copies_numbered (Err e) requests same = tt

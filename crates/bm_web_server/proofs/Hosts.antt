-- What is known of a request by a test of its field `Host`.
use Rattle.std.proofs.Common.{◌≡◌, sym, ◌∙◌, Bool, true, false, true≢false}
use Rattle.std.specs.Prelude.{◌↔◌, IsTrue}

pub not_so : (P : Type 0) (test : Bool) → IsTrue test ↔ P → test ≡ false → ¬ P
not_so P test means failed holds = true≢false (sym (means.1 holds) ∙ failed)

-- What a session's login comes to, by what its link and its core do.
use Rattle.std.proofs.Common.{◌≡◌, refl, inl, inr, ℕ, List, Option, Ok, Err}
use Rattle.std.specs.declared.alloc.AllocError.{AllocError}
use Rattle.bm_link.specs.Working.{LogsInWhere, WorkState}
use Rattle.bm_link.specs.declared.attaching.Attached.{Attached}
use Rattle.bm_link.specs.declared.attaching.Attached.TheVariants as attached
use Rattle.bm_link.specs.declared.fault.LinkFault.TheVariants.{Mem}
use Rattle.bm_worker_session.specs.Sessions.{BeginsBy, ConnectsBy, SessionState, is_resumed}

module _ {S : Type 0} (remaining contents : S → Option (List ℕ)) (name password : List ℕ) (session next : Option (List ℕ)) where
  -- behind an answer that was read only a resumed session is as before
  pub resumed_alone : (a : Attached) (link link2 : WorkState S) (old new : SessionState S) (e : AllocError)
      → LogsInWhere remaining contents name password session next link.failed link (Ok a) link2 → BeginsBy (is_resumed a) link2 old (Err e) new
      → ConnectsBy remaining contents name password session next link old (Err Mem) new
  resumed_alone attached.Resumed link link2 old new e logs kept = (link2, kept, inr (refl, logs))
  resumed_alone attached.Plain link link2 old new e logs kept = absurd kept
  resumed_alone attached.New link link2 old new e logs kept = absurd kept

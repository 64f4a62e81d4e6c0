-- A login by a link, and by one that is new.
use Rattle.std.proofs.Common.{◌≡◌, ◌∙◌, refl, sym, subst, Bor, Bool, true, false, List, ℕ, Option, Some, None, Result, Ok, Err}
use Rattle.std.specs.Prelude.{is_some}
use Rattle.std.specs.Option.{option_copied}
use Rattle.tungstenite.specs.Socket.{Socket}
use Rattle.bm_link.specs.declared.attaching.Attached.{Attached}
use Rattle.bm_link.specs.declared.fault.LinkFault.{LinkFault}
use Rattle.bm_link.specs.Greeting.{FailsToGreet, Greets}
use Rattle.bm_link.specs.Working.{IsOpened, LogsInBy, LogsInWhere, WorkState}

-- a text that is lent is there where it is
pub lent_is_there : {T : Type 0} (o : Option (Bor T)) → is_some o ≡ is_some (option_copied o)
lent_is_there None = refl
lent_is_there (Some x) = refl

module _ {S : Type 0} (remaining contents : S → Option (List ℕ)) (name password : List ℕ) where
  -- it hasn't failed, so the login is tried
  tried : (session next : Option (List ℕ)) (old new : WorkState S) (r : Result Attached LinkFault) → IsOpened old
      → LogsInWhere remaining contents name password session next old.failed old r new → LogsInBy remaining contents name password session next old r new
  tried session next old new r is h = subst (λ (b : Bool). LogsInWhere remaining contents name password session next b old r new) is.2 h

  pub connects : (session : Option (List ℕ)) (old new : WorkState S) (a : Attached) → IsOpened old
      → LogsInWhere remaining contents name password session None old.failed old (Ok a) new
      → Greets remaining contents name password session None old.socket new.socket a × (new.failed ≡ false) × (new.named ≡ is_some session) × (new.closed ≡ false)
  connects session old new a is h =
      let did : LogsInBy remaining contents name password session None old (Ok a) new = tried session None old new (Ok a) is h in
      (did.0, did.1, did.2, did.3 ∙ is.3)

  pub fails_to_connect : (session : Option (List ℕ)) (old new : WorkState S) (f : LinkFault) → IsOpened old
      → LogsInWhere remaining contents name password session None old.failed old (Err f) new
      → FailsToGreet remaining contents name password session None old.socket f new.socket
  fails_to_connect session old new f is h =
      let did : LogsInBy remaining contents name password session None old (Err f) new = tried session None old new (Err f) is h in
      did.0

  -- the login of a link that hasn't failed, from what its socket did
  pub logged_in : (session next : Option (List ℕ)) (old : WorkState S) (socket : Socket S) (named : Bool) (a : Attached) → old.failed ≡ false → named ≡ is_some session
      → Greets remaining contents name password session next old.socket socket a
      → LogsInWhere remaining contents name password session next old.failed old (Ok a) (record { socket = socket; named = named; failed = old.failed; closed = old.closed })
  logged_in session next old socket named a f n h =
      subst (λ (b : Bool). LogsInWhere remaining contents name password session next b old (Ok a) (record { socket = socket; named = named; failed = old.failed; closed = old.closed })) (sym f)
      (h, f, n, refl)

  pub not_logged_in : (session next : Option (List ℕ)) (old : WorkState S) (socket : Socket S) (named : Bool) (e : LinkFault) → old.failed ≡ false → named ≡ is_some session
      → FailsToGreet remaining contents name password session next old.socket e socket
      → LogsInWhere remaining contents name password session next old.failed old (Err e) (record { socket = socket; named = named; failed = true; closed = old.closed })
  not_logged_in session next old socket named e f n h =
      subst (λ (b : Bool). LogsInWhere remaining contents name password session next b old (Err e) (record { socket = socket; named = named; failed = true; closed = old.closed })) (sym f)
      (h, refl, n, refl)

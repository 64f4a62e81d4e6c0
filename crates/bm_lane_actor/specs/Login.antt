-- What a worker's connection is once it has logged in.
use Rattle.std.specs.Prelude.{ℕ, List, Option, Ok}
use Rattle.bm_link.specs.declared.fault.LinkFault.{LinkFault}
use Rattle.bm_link.specs.declared.user.User.{User}
use Rattle.bm_link.specs.Accepting.{IsAccepted}
use Rattle.bm_link.specs.Control.{PutsOff}
use Rattle.bm_link.specs.Link.{LinkState}
use Rattle.bm_link.specs.Logins.{LogsInAt}

module _ {S : Type 0} where
  -- the link was accepted, and read the login of the user at this place
  abbrev pub IsLoggedIn : (S → Option (List ℕ)) → (S → Option (List ℕ)) → List User → ℕ
      → LinkState S → Type 0
  IsLoggedIn remaining contents users place link =
      (new : LinkState S) × IsAccepted new
      × LogsInAt remaining contents users new.stage new.login new (Ok place) link

  -- a worker has logged in as the user at this place
  abbrev pub HasLoggedIn : (S → Option (List ℕ)) → (S → Option (List ℕ)) → List User → ℕ → Type 0
  HasLoggedIn remaining contents users place =
      (link : LinkState S) × IsLoggedIn remaining contents users place link

  -- the worker of this link was told `busy`, where its login waits
  abbrev pub IsPutOff : (S → Option (List ℕ)) → LinkState S → LinkFault → Type 0
  IsPutOff contents link fault = (new : LinkState S) × PutsOff contents link.login link fault new

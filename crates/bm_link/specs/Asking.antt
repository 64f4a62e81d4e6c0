-- What it does to a link to ask a worker.
use Rattle.std.specs.Prelude.{◌≡◌, ℕ, List, Option, None, Result, Ok, Err}
use Rattle.bm_link.specs.declared.asks.Ask.{Ask}
use Rattle.bm_link.specs.declared.fault.LinkFault.{LinkFault}
use Rattle.bm_link.specs.declared.fault.LinkFault.TheVariants.{Closed}
use Rattle.bm_link.specs.declared.ending.Stage.{Stage}
use Rattle.bm_link.specs.declared.ending.Stage.TheVariants as stage
use Rattle.bm_link.specs.Asks.{SendsAsk}
use Rattle.bm_link.specs.Carries.{Carried, may_cut}
use Rattle.bm_link.specs.Link.{LinkState}

module _ {S : Type 0} where
  -- the link stays up; or it failed, and its lane is still to be cut or taken down
  abbrev pub StaysUp : LinkState S → Carried → Result (Unit {0}) LinkFault → LinkState S → Type 0
  StaysUp old carry2 (Ok _) new = (new.stage ≡ stage.Up) × (new.kept ≡ old.kept)
  StaysUp old carry2 (Err f) new =
      (new.stage ≡ stage.Falling (may_cut carry2 f)) × (new.kept ≡ None)

  -- asking: by a link that is not up it does nothing
  abbrev pub AsksFor : (S → Option (List ℕ)) → Ask → Stage → LinkState S → Carried
      → Result (Unit {0}) LinkFault → LinkState S → Carried → Type 0
  AsksFor contents ask stage.Up old carry r new carry2 =
      SendsAsk contents carry ask old.socket r new.socket carry2 × StaysUp old carry2 r new
  AsksFor contents ask _ old carry r new carry2 = (r ≡ Err Closed) × (new ≡ old) × (carry2 ≡ carry)

-- A login that waits is told `busy`.
use Rattle.std.proofs.Common.{◌≡◌, sym, subst, List, ℕ, Option, Some, None}
use Rattle.bm_lane.specs.declared.refusals.HearRefusal.TheVariants.{Busy}
use Rattle.bm_link.specs.declared.credentials.Named.{Named}
use Rattle.bm_link.specs.declared.fault.LinkFault.{LinkFault}
use Rattle.bm_link.specs.declared.fault.LinkFault.TheVariants.{Lane}
use Rattle.bm_link.specs.declared.ending.Stage.TheVariants as stage
use Rattle.bm_link.specs.Control.{PutsOff}
use Rattle.bm_link.specs.Link.{LinkState}
use Rattle.bm_link.specs.Telling.{text_of_refusal, TellsAny}

module _ {S : Type 0} where
  pub puts_off : (contents : S → Option (List ℕ)) (login : Named) (old : LinkState S) (f : LinkFault) (new : LinkState S)
      → old.login ≡ Some login → f ≡ Lane Busy → new.stage ≡ stage.Failed → new.login ≡ None
      → TellsAny contents login.seq (text_of_refusal Busy) old.socket new.socket → PutsOff contents old.login old f new
  puts_off contents login old f new waits fault s l told =
      subst (λ (x : Option Named). PutsOff contents x old f new) (sym waits) (fault, s, l, told)

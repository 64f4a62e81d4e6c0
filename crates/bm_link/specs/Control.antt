-- What a master's link sends beside messages: a ping, a close frame, and `busy` to a login.
use Rattle.std.specs.Prelude.{◌≡◌, ℕ, Bool, false, List, Option, Some, None, Result, Ok, Err}
use Rattle.bm_lane.specs.declared.refusals.HearRefusal.TheVariants.{Busy}
use Rattle.bm_link.specs.declared.credentials.Named.{Named}
use Rattle.bm_link.specs.declared.fault.LinkFault.{LinkFault}
use Rattle.bm_link.specs.declared.fault.LinkFault.TheVariants.{Closed, Lane}
use Rattle.bm_link.specs.declared.ending.Stage.{Stage}
use Rattle.bm_link.specs.declared.ending.Stage.TheVariants as stage
use Rattle.bm_link.specs.Carries.{Carried, is_same, may_cut}
use Rattle.bm_link.specs.Frames.{SendsClose, SendsPing}
use Rattle.bm_link.specs.Link.{LinkState}
use Rattle.bm_link.specs.Telling.{text_of_refusal, TellsAny}

-- the login names the session that is kept
abbrev pub names_kept : Carried → Option Named → Bool
names_kept carry (Some login) = is_same carry.text login.session
names_kept carry None = false

module _ {S : Type 0} where
  -- the link stays up; or it failed, and its lane is still to be cut or taken down
  abbrev pub StaysOrFalls : LinkState S → Carried → Result (Unit {0}) LinkFault → LinkState S
      → Type 0
  StaysOrFalls old carry (Ok _) new = (new.stage ≡ stage.Up) × (new.kept ≡ old.kept)
  StaysOrFalls old carry (Err f) new =
      (new.stage ≡ stage.Falling (may_cut carry f)) × (new.kept ≡ None)

  -- a ping: by a link that is not up nothing is done
  abbrev pub PingsFor : (S → Option (List ℕ)) → Stage → LinkState S → Carried
      → Result (Unit {0}) LinkFault → LinkState S → Type 0
  PingsFor contents stage.Up old carry r new =
      SendsPing contents old.socket r new.socket × StaysOrFalls old carry r new
  PingsFor contents _ old carry r new = (r ≡ Err Closed) × (new ≡ old)

  -- a close: the lane is still to be taken down; by a link that is not up nothing is done
  abbrev pub ClosesFor : (S → Option (List ℕ)) → Stage → LinkState S → Result (Unit {0}) LinkFault
      → LinkState S → Type 0
  ClosesFor contents stage.Up old r new =
      SendsClose contents old.socket r new.socket × (new.stage ≡ stage.Falling false)
      × (new.kept ≡ None)
  ClosesFor contents _ old r new = (r ≡ Err Closed) × (new ≡ old)

  -- a login that waits is told `busy`, or can't be told; without one nothing is done
  abbrev pub PutsOff : (S → Option (List ℕ)) → Option Named → LinkState S → LinkFault → LinkState S
      → Type 0
  PutsOff contents (Some login) old f new =
      (f ≡ Lane Busy) × (new.stage ≡ stage.Failed) × (new.login ≡ None)
      × TellsAny contents login.seq (text_of_refusal Busy) old.socket new.socket
  PutsOff contents None old f new = (f ≡ Closed) × (new ≡ old)

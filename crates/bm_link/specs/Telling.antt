-- How a worker is told that its login is refused.
use Rattle.std.specs.Prelude.{◌≡◌, ◌⊎◌, ℕ, List, codes, Option, Some, None}
use Rattle.tungstenite.specs.Socket.{Socket}
use Rattle.bm_msg.specs.Trees.{answer_bytes}
use Rattle.bm_session.specs.declared.refusal.Refusal.TheVariants.{Mem as SessionMem, Full as SessionFull}
use Rattle.bm_lane.specs.declared.refusals.HearRefusal.{HearRefusal}
use Rattle.bm_lane.specs.declared.refusals.HearRefusal.TheVariants.{Session, Busy}
use Rattle.bm_link.specs.declared.fault.LinkFault.{LinkFault}
use Rattle.bm_link.specs.declared.fault.LinkFault.TheVariants.{Full, Lane, Mem}
use Rattle.bm_link.specs.Causes.{IsUnsent}
use Rattle.bm_link.specs.Sending.{SendsBytes}

-- the fault of a link whose lane refuses to go up
abbrev pub fault_of_refusal : HearRefusal → LinkFault
fault_of_refusal (Session SessionMem) = Mem
fault_of_refusal (Session SessionFull) = Full
fault_of_refusal why = Lane why

-- the text that tells it to the worker: want of memory is not told
abbrev pub text_of_refusal : HearRefusal → Option (List ℕ)
text_of_refusal (Session SessionMem) = None
text_of_refusal (Session SessionFull) = Some (codes "full")
text_of_refusal (Session _) = Some (codes "already up")
text_of_refusal Busy = Some (codes "busy")

module _ {S : Type 0} where
  -- the exception with this text was sent for request n, or could not be
  abbrev pub Tells : (S → Option (List ℕ)) → ℕ → List ℕ → Socket S → Socket S → Type 0
  Tells contents n text old new =
      SendsBytes contents (answer_bytes n (Some text)) old new
      ⊎ ((f : LinkFault) × IsUnsent contents (answer_bytes n (Some text)) old f new)

  -- that, where there is a text
  abbrev pub TellsAny : (S → Option (List ℕ)) → ℕ → Option (List ℕ) → Socket S → Socket S → Type 0
  TellsAny contents n None old new = new ≡ old
  TellsAny contents n (Some text) old new = Tells contents n text old new

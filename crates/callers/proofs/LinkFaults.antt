-- Which faults a link's parts never tell.
use Rattle.std.proofs.Common.{◌≡◌, ◌≢◌, ◌∙◌, ◌⊎◌, sym, inl, inr, ℕ, List, [], ◌∷◌, false, Option}
use Rattle.tungstenite.specs.Failure.{IsIo}
use Rattle.tungstenite.specs.Socket.{Socket}
use Rattle.tungstenite.specs.declared.error.Error.{Error}
use Rattle.tungstenite.specs.declared.error.Error.TheVariants as error
use Rattle.websocket.specs.declared.error.ProtocolError.TheVariants.{ResetWithoutClosingHandshake}
use Rattle.bm_session.specs.declared.refusal.Refusal.{Refusal}
use Rattle.bm_session.specs.declared.refusal.Refusal.TheVariants as refusal
use Rattle.bm_work.specs.declared.sent.Sent.{Sent}
use Rattle.bm_lane.specs.declared.refusals.HearRefusal.{HearRefusal}
use Rattle.bm_lane.specs.declared.refusals.HearRefusal.TheVariants.{Busy}
use Rattle.bm_link.specs.declared.fault.LinkFault.{LinkFault}
use Rattle.bm_link.specs.declared.fault.LinkFault.TheVariants.{Closed, Lane, Mem, Stream}
use Rattle.bm_link.specs.declared.attaching.Attached.{Attached}
use Rattle.bm_link.specs.Attaching.{FailsToSendAll, FailsToSendAttached}
use Rattle.bm_link.specs.Carries.{is_bad}
use Rattle.bm_link.specs.Causes.{FailsToRead, IsUnsent}
use Rattle.bm_link.specs.Faults.{fault_of, fault_of_session}

error_no_lane : (x : Error) (why : HearRefusal) → fault_of x ≢ Lane why
error_no_lane (error.Protocol ResetWithoutClosingHandshake) why h = cc
error_no_lane _ why h = cc

pub stream_is_io : (x : Error) → fault_of x ≡ Stream → IsIo x
stream_is_io (error.Io cause) h = tt
stream_is_io (error.Protocol ResetWithoutClosingHandshake) h = cc
stream_is_io _ h = cc

pub session_not_busy : (why : Refusal) → fault_of_session why ≢ Lane Busy
session_not_busy refusal.NotUp h = cc
session_not_busy _ h = cc

module _ {S : Type 0} (remaining contents : S → Option (List ℕ)) where
  pub read_no_lane : (old new : Socket S) (f : LinkFault) (why : HearRefusal) → FailsToRead remaining contents old f new → f ≢ Lane why
  read_no_lane old new f why (inl (x, reads, is, loud)) e = error_no_lane x why (sym is ∙ e)
  read_no_lane old new f why (inr (inl (m, mid, reads, closes, flushed, is))) e = cc
  read_no_lane old new f why (inr (inr (bs, m, reads, has, inl bad))) e = let is = bad.0 in cc
  read_no_lane old new f why (inr (inr (bs, m, reads, has, inr (inl is)))) e = cc
  read_no_lane old new f why (inr (inr (bs, m, reads, has, inr (inr is)))) e = cc

-- a fault of sending: want of memory, an end, or a stream that failed
abbrev pub IsOfSending : LinkFault → Type 0
IsOfSending f = (f ≡ Mem) ⊎ ((f ≡ Closed) ⊎ (f ≡ Stream))

module _ {S : Type 0} (contents : S → Option (List ℕ)) where
  pub unsent_no_lane : (bytes : List ℕ) (old new : Socket S) (f : LinkFault) (why : HearRefusal) → IsUnsent contents bytes old f new → f ≢ Lane why
  unsent_no_lane bytes old new f why (inl (same, inl is)) e = cc
  unsent_no_lane bytes old new f why (inl (same, inr shut)) e = let is = shut.0 in cc
  unsent_no_lane bytes old new f why (inr (is, leaves)) e = cc

  pub unsent_not_bad : (bytes : List ℕ) (old new : Socket S) (f : LinkFault) → IsUnsent contents bytes old f new → is_bad f ≡ false
  unsent_not_bad bytes old new f (inl (same, inl is)) = rw is
  unsent_not_bad bytes old new f (inl (same, inr shut)) = rw shut.0
  unsent_not_bad bytes old new f (inr (is, leaves)) = rw is

  unsent_of_sending : (bytes : List ℕ) (old new : Socket S) (f : LinkFault) → IsUnsent contents bytes old f new → IsOfSending f
  unsent_of_sending bytes old new f (inl (same, inl is)) = inl is
  unsent_of_sending bytes old new f (inl (same, inr shut)) = inr (inl shut.0)
  unsent_of_sending bytes old new f (inr (is, leaves)) = inr (inr is)

  orders_of_sending : (os : List Sent) (old new : Socket S) (f : LinkFault) → FailsToSendAll contents old os f new → IsOfSending f
  orders_of_sending [] old new f h = absurd h
  orders_of_sending (o ∷ os) old new f (inl unsent) = unsent_of_sending o.bytes old new f unsent
  orders_of_sending (o ∷ os) old new f (inr (mid, sends, fails)) = orders_of_sending os mid new f fails

  pub attached_of_sending : (n : ℕ) (a : Attached) (os : List Sent) (old new : Socket S) (f : LinkFault)
      → FailsToSendAttached contents old n a os f new → IsOfSending f
  attached_of_sending n a os old new f (inl unsent) = unsent_of_sending _ old new f unsent
  attached_of_sending n a os old new f (inr (mid, sends, fails)) = orders_of_sending os mid new f fails

-- What a link's other calls leave: an attaching, an order, and what is asked.
use Rattle.std.proofs.Common.{◌≡◌, ◌≢◌, ◌∙◌, refl, sym, ap, subst, inl, inr, ℕ, ◌+◌, ◌^◌, Bool, true, false, not, ◌&&◌, List, [], ◌∷◌, ◌++◌, Option, Some, Result, Ok, Err}
use Rattle.std.specs.Prelude.{codes, nat_lt, is_some, if◌then◌else◌, IfOk}
use Rattle.tungstenite.specs.Connection.{write_step}
use Rattle.tungstenite.specs.Content.{binary}
use Rattle.tungstenite.specs.Socket.{Socket, Writes}
use Rattle.bm_msg.specs.Trees.{answer_bytes}
use Rattle.bm_session.specs.Trace.{orders}
use Rattle.bm_session.specs.declared.refusal.Refusal.{Refusal}
use Rattle.bm_session.specs.declared.refusal.Refusal.TheVariants as refusal
use Rattle.bm_work.specs.declared.sent.Sent.{Sent}
use Rattle.bm_lane.specs.Ends.{Heard}
use Rattle.bm_lane.specs.declared.refusals.HearRefusal.{HearRefusal}
use Rattle.bm_lane.specs.declared.refusals.HearRefusal.TheVariants.{Busy, Session}
use Rattle.bm_link.specs.declared.asks.Ask.{Ask}
use Rattle.bm_link.specs.declared.attaching.Attached.{Attached}
use Rattle.bm_link.specs.declared.credentials.Named.{Named}
use Rattle.bm_link.specs.declared.fault.LinkFault.{LinkFault}
use Rattle.bm_link.specs.declared.fault.LinkFault.TheVariants.{Full, Lane}
use Rattle.bm_link.specs.declared.ending.Stage.{Stage}
use Rattle.bm_link.specs.declared.ending.Stage.TheVariants as stage
use Rattle.bm_link.specs.Asking.{AsksFor}
use Rattle.bm_link.specs.Asks.{SendsAsk}
use Rattle.bm_link.specs.Attaching.{AttachesAs, TakesUpFor, attached_as, resumes}
use Rattle.bm_link.specs.Carries.{Carried, has_asked, is_bad, may_cut}
use Rattle.bm_link.specs.Link.{LinkState}
use Rattle.bm_link.specs.Orders.{Interrupts, Starts}
use Rattle.bm_link.specs.Sending.{SendsBytes}
use Rattle.bm_link.specs.Telling.{Tells, TellsAny, fault_of_refusal, text_of_refusal}
use Rattle.callers.specs.Link.{LeavesException, TellsLogin, exception_bytes}
use Rattle.callers.proofs.LinkFaults.{IsOfSending, attached_of_sending, unsent_not_bad}

-- Orders

-- an order with this number was kept
abbrev KeepsNumber : Heard → Carried → Carried → Type 0
KeepsNumber lane carry carry2 = (o : Sent) × (o.seq ≡ orders lane.trace) × (carry2.orders ≡ carry.orders ++ o ∷ [])

module _ {S : Type 0} (contents : S → Option (List ℕ)) where
  pub start_keeps : (argv : List (List ℕ)) (s : Stage) (old : LinkState S) (lane : Heard) (carry : Carried) (r : Result ℕ LinkFault) (new : LinkState S) (lane2 : Heard) (carry2 : Carried)
      → Starts contents argv s old lane carry r new lane2 carry2 → IfOk r (λ _. KeepsNumber lane carry carry2)
  start_keeps argv s old lane carry (Err f) new lane2 carry2 h = tt
  start_keeps argv stage.Up old lane carry (Ok k) new lane2 carry2 (number, kept, sends) = (_, refl, ap (λ (c : Carried). c.orders) kept)
  start_keeps argv stage.Open old lane carry (Ok k) new lane2 carry2 h = let is = h.0 in absurd (cc)
  start_keeps argv (stage.Falling cuts) old lane carry (Ok k) new lane2 carry2 h = let is = h.0 in absurd (cc)
  start_keeps argv stage.Failed old lane carry (Ok k) new lane2 carry2 h = let is = h.0 in absurd (cc)

  -- the order that was kept was sent with its bytes
  abbrev pub SentAndKept : LinkState S → Carried → LinkState S → Carried → Type 0
  SentAndKept old carry new carry2 =
      (o : Sent) × (carry2.orders ≡ carry.orders ++ o ∷ []) × SendsBytes contents o.bytes old.socket new.socket

  pub interrupt_keeps : (k : ℕ) (s : Stage) (old : LinkState S) (lane : Heard) (carry : Carried) (r : Result (Unit {0}) LinkFault) (new : LinkState S) (lane2 : Heard) (carry2 : Carried)
      → Interrupts contents k s old lane carry r new lane2 carry2 → IfOk r (λ _. SentAndKept old carry new carry2)
  interrupt_keeps k s old lane carry (Err f) new lane2 carry2 h = tt
  interrupt_keeps k stage.Up old lane carry (Ok u) new lane2 carry2 (kept, taken, sends) = (_, ap (λ (c : Carried). c.orders) kept, sends.0)
  interrupt_keeps k stage.Open old lane carry (Ok u) new lane2 carry2 h = let is = h.0 in absurd (cc)
  interrupt_keeps k (stage.Falling cuts) old lane carry (Ok u) new lane2 carry2 h = let is = h.0 in absurd (cc)
  interrupt_keeps k stage.Failed old lane carry (Ok u) new lane2 carry2 h = let is = h.0 in absurd (cc)

-- Asking

text_kept : (b : Bool) (carry : Carried) → (if b then record carry { next_ask = carry.next_ask + 1 } else carry).text ≡ carry.text
text_kept true carry = refl
text_kept false carry = refl

-- after this fault the lane may be cut
may_be_cut : (carry carry2 : Carried) (f : LinkFault) → is_some carry.text ≡ true → carry2 ≡ has_asked carry → is_bad f ≡ false → may_cut carry2 f ≡ true
may_be_cut carry carry2 f named asked good =
    let text : carry2.text ≡ carry.text = ap (λ (c : Carried). c.text) asked ∙ text_kept (nat_lt carry.next_ask (2 ^ 63)) carry in
    ap (λ (b : Bool). is_some carry2.text && not b) good ∙ ap (λ (t : Option (List ℕ)). is_some t && true) text ∙ ap (λ (b : Bool). b && true) named

module _ {S : Type 0} (contents : S → Option (List ℕ)) where
  not_bad : (carry carry2 : Carried) (a : Ask) (old new : Socket S) (f : LinkFault) → SendsAsk contents carry a old (Err f) new carry2 → is_bad f ≡ false
  not_bad carry carry2 a old new f (asked, used, inl (full, out, same)) = ap is_bad full
  not_bad carry carry2 a old new f (asked, used, inr (more, unsent)) = unsent_not_bad contents _ old new f unsent

  pub falls_with_a_cut : (a : Ask) (s : Stage) (old : LinkState S) (carry : Carried) (f : LinkFault) (new : LinkState S) (carry2 : Carried)
      → s ≡ stage.Up → is_some carry.text ≡ true → AsksFor contents a s old carry (Err f) new carry2 → new.stage ≡ stage.Falling true
  falls_with_a_cut a stage.Up old carry f new carry2 up named (sends, (falls, kept)) =
      falls ∙ ap (λ (b : Bool). stage.Falling b) (may_be_cut carry carry2 f named sends.0 (not_bad carry carry2 a old.socket new.socket f sends))
  falls_with_a_cut a stage.Open old carry f new carry2 up named h = absurd (cc)
  falls_with_a_cut a (stage.Falling cuts) old carry f new carry2 up named h = absurd (cc)
  falls_with_a_cut a stage.Failed old carry f new carry2 up named h = absurd (cc)

-- Attaching

same_bytes : (n : ℕ) (text : List ℕ) → answer_bytes n (Some text) ≡ exception_bytes n text
unfolding answer_bytes exception_bytes
same_bytes n text = refl

-- a refusal with this fault has this text, and sending has no such fault
abbrev pub IsToldAs : LinkFault → List ℕ → Type 0
IsToldAs f text = ((why : HearRefusal) → fault_of_refusal why ≡ f → text_of_refusal why ≡ Some text) × ((g : LinkFault) → IsOfSending g → g ≢ f)

no_lane : (why : HearRefusal) (g : LinkFault) → IsOfSending g → g ≢ Lane why
no_lane why g (inl is) lane = cc
no_lane why g (inr (inl is)) lane = cc
no_lane why g (inr (inr is)) lane = cc

not_full : (g : LinkFault) → IsOfSending g → g ≢ Full
not_full g (inl is) full = cc
not_full g (inr (inl is)) full = cc
not_full g (inr (inr is)) full = cc

up_text : (r : Refusal) (why : HearRefusal) → fault_of_refusal why ≡ Lane (Session r) → text_of_refusal why ≡ Some (codes "already up")
up_text r Busy is = absurd (cc)
up_text r (Session refusal.Mem) is = absurd (cc)
up_text r (Session refusal.Full) is = absurd (cc)
up_text r (Session _) is = refl

busy_text : (why : HearRefusal) → fault_of_refusal why ≡ Lane Busy → text_of_refusal why ≡ Some (codes "busy")
busy_text Busy is = refl
busy_text (Session refusal.Mem) is = absurd (cc)
busy_text (Session refusal.Full) is = absurd (cc)
busy_text (Session _) is = absurd (cc)

full_text : (why : HearRefusal) → fault_of_refusal why ≡ Full → text_of_refusal why ≡ Some (codes "full")
full_text Busy is = absurd (cc)
full_text (Session refusal.Mem) is = absurd (cc)
full_text (Session refusal.Full) is = refl
full_text (Session _) is = absurd (cc)

pub up_is_told : (r : Refusal) → IsToldAs (Lane (Session r)) (codes "already up")
up_is_told r = (up_text r, no_lane (Session r))

pub busy_is_told : IsToldAs (Lane Busy) (codes "busy")
busy_is_told = (busy_text, no_lane Busy)

pub full_is_told : IsToldAs Full (codes "full")
full_is_told = (full_text, not_full)

module _ {S : Type 0} (contents : S → Option (List ℕ)) where
  told : (n : ℕ) (text : List ℕ) (old new : Socket S) → Tells contents n text old new → LeavesException contents n text old new
  told n text old new (inl sends) = inr (subst (λ (bs : List ℕ). Writes contents old new (write_step old.conn (binary bs))) (same_bytes n text) sends.0)
  told n text old new (inr (f, inl (same, why))) = inl same
  told n text old new (inr (f, inr (stream, leaves))) = inr (subst (λ (bs : List ℕ). Writes contents old new (write_step old.conn (binary bs))) (same_bytes n text) leaves)

  attached_told : (f : LinkFault) (text : List ℕ) → IsToldAs f text → (resumed : Bool) (login : Named) (old : Socket S) (lane : Heard) (carry : Carried) (s : Stage) (new : Socket S) (lane2 : Heard) (carry2 : Carried)
      → AttachesAs contents resumed login old lane carry (Err (s, f)) new lane2 carry2 → LeavesException contents login.seq text old new
  attached_told f text says resumed login old lane carry s new lane2 carry2 (inl (failed, (why, declined, fault, tells), kept)) =
      told login.seq text old new (subst (λ (t : Option (List ℕ)). TellsAny contents login.seq t old new) (says.0 why (sym fault)) tells)
  attached_told f text says resumed login old lane carry s new lane2 carry2 (inr (ends, kept, unsent)) =
      absurd (says.1 f (attached_of_sending contents login.seq (attached_as resumed login.session) carry2.orders old new f unsent) refl)

  takes_up_told : (f : LinkFault) (text : List ℕ) → IsToldAs f text → (login : Named) (old : LinkState S) (lane : Heard) (carry : Carried) (r : Result Attached LinkFault) (new : LinkState S) (lane2 : Heard) (carry2 : Carried)
      → r ≡ Err f → TakesUpFor contents (Some login) old lane carry r new lane2 carry2 → LeavesException contents login.seq text old.socket new.socket
  takes_up_told f text says login old lane carry (Ok a) new lane2 carry2 is h = absurd (cc)
  takes_up_told f text says login old lane carry (Err g) new lane2 carry2 is (h, none) =
      let same : g ≡ f = cc in
      attached_told f text says (resumes lane.trace carry login.session) login old.socket lane carry new.stage new.socket lane2 carry2
      (subst (λ (x : LinkFault). AttachesAs contents (resumes lane.trace carry login.session) login old.socket lane carry (Err (new.stage, x)) new.socket lane2 carry2) same h)

  pub tells_login : (f : LinkFault) (text : List ℕ) → IsToldAs f text → (waits : Option Named) (old : LinkState S) (lane : Heard) (carry : Carried) (r : Result Attached LinkFault) (new : LinkState S) (lane2 : Heard) (carry2 : Carried)
      → r ≡ Err f → TakesUpFor contents waits old lane carry r new lane2 carry2 → TellsLogin contents waits text old.socket new.socket
  tells_login f text says waits old lane carry r new lane2 carry2 is h login waiting =
      takes_up_told f text says login old lane carry r new lane2 carry2 is (subst (λ (w : Option Named). TakesUpFor contents w old lane carry r new lane2 carry2) waiting h)

-- A tree is one event, or none for one reason.
use Rattle.std.proofs.Common.{◌≡◌, ◌≢◌, refl, ◌∙◌, ap, inl, inr, ℕ, Ok, Err, IfOk, IfErr, IsErrOf}
use Rattle.bm_value.specs.Tree.{Tree}
use Rattle.bm_msg.specs.Meaning.{Meaning, request, response}
use Rattle.bm_msg.specs.Messages.{IsMessage, IsFaulty}
use Rattle.bm_msg.specs.declared.fault.MsgError.{MsgError}
use Rattle.bm_msg.specs.declared.message.Message.{Message}
use Rattle.bm_msg.specs.declared.fault.MsgError.TheVariants.{NotMap, NoSeq, NoOp, BadArgs, Mem}
use Rattle.bm_msg.proofs.Readings.{message_read, fault_read, told_once}
use Rattle.bm_session.specs.declared.event.Body.TheVariants as body
use Rattle.bm_session.specs.declared.event.Event.{Event}
use Rattle.bm_session.specs.declared.event.Event.TheVariants.{In}
use Rattle.bm_session.specs.Heard.{body_of, event_of, faulty_as, IsEvent, IsNoEvent, IsNumbered}

-- a message has no fault
no-fault : (t : Tree) (m : Meaning) (f : MsgError) → IsMessage t m → IsFaulty t f → ⊥
no-fault t m f is bad = let good = message_read t m is in let none = fault_read t f bad in cc

-- a tree with bad arguments has no other fault
no-other : (t : Tree) (n : ℕ) (f : MsgError) → IsFaulty t (BadArgs n) → IsFaulty t f → f ≡ BadArgs n
no-other t n f bad worse = let one = fault_read t (BadArgs n) bad in let two = fault_read t f worse in cc

pub one_event : (t : Tree) (m : Meaning) (e : Event) → IsMessage t m → IsEvent t e → e ≡ event_of m
one_event t m e is (inl h) = h.2 ∙ ap event_of (told_once t h.0 m h.1 is)
one_event t m e is (inr h) = absurd (no-fault t m (BadArgs h.0) is h.1)

pub no_reason : (t : Tree) (m : Meaning) (f : MsgError) → IsMessage t m → IsNoEvent t f → ⊥
no_reason t m NotMap is bad = no-fault t m NotMap is bad
no_reason t m NoSeq is bad = no-fault t m NoSeq is bad
no_reason t m NoOp is bad = no-fault t m NoOp is bad
no_reason t m (BadArgs n) is bad = bad
no_reason t m Mem is bad = bad

-- ---- a tree for which this fault was told

pub faulty_event : (t : Tree) (f : MsgError) → (f ≢ Mem → IsFaulty t f) → IfOk (faulty_as f) (IsEvent t)
faulty_event t (BadArgs n) is = inr (n, is (λ e. cc), refl)
faulty_event t f is = tt

pub faulty_only : (t : Tree) (f : MsgError) → (f ≢ Mem → IsFaulty t f) → (e : Event) → IsEvent t e → IfOk (faulty_as f) (λ r. r ≡ e)
faulty_only t (BadArgs n) is e (inl h) = absurd (no-fault t h.0 (BadArgs n) h.1 (is (λ e. cc)))
faulty_only t (BadArgs n) is e (inr h) = let same : BadArgs n ≡ BadArgs h.0 = no-other t h.0 (BadArgs n) h.1 (is (λ e. cc)) in let eq = h.2 in cc
faulty_only t f is e h = tt

-- no fault but want of memory is told of an event
known : (t : Tree) (f : MsgError) (e : Event) → IsNoEvent t f → IsEvent t e → ⊥
known t f e is (inl h) = no_reason t h.0 f h.1 is
known t NotMap e is (inr h) = let no = no-other t h.0 NotMap h.1 is in cc
known t NoSeq e is (inr h) = let no = no-other t h.0 NoSeq h.1 is in cc
known t NoOp e is (inr h) = let no = no-other t h.0 NoOp h.1 is in cc
known t (BadArgs n) e is (inr h) = is
known t Mem e is (inr h) = is

pub faulty_wants : (t : Tree) (f : MsgError) → (f ≢ Mem → IsFaulty t f) → (e : Event) → IsEvent t e → IfErr (faulty_as f) (λ g. g ≡ Mem)
faulty_wants t NotMap is e h = absurd (known t NotMap e (is (λ e. cc)) h)
faulty_wants t NoSeq is e h = absurd (known t NoSeq e (is (λ e. cc)) h)
faulty_wants t NoOp is e h = absurd (known t NoOp e (is (λ e. cc)) h)
faulty_wants t (BadArgs n) is e h = tt
faulty_wants t Mem is e h = refl

pub faulty_fault : (t : Tree) (f : MsgError) → (f ≢ Mem → IsFaulty t f) → IfErr (faulty_as f) (λ g. g ≢ Mem → IsNoEvent t g)
faulty_fault t NotMap is = is
faulty_fault t NoSeq is = is
faulty_fault t NoOp is = is
faulty_fault t (BadArgs n) is = tt
faulty_fault t Mem is = λ never. absurd (never refl)

reason-fault : (t : Tree) (f : MsgError) → IsNoEvent t f → IsFaulty t f
reason-fault t NotMap is = is
reason-fault t NoSeq is = is
reason-fault t NoOp is = is
reason-fault t (BadArgs n) is = absurd is
reason-fault t Mem is = is

err-is : (f g : MsgError) → IsErrOf {T = Message} (Err f) g → f ≡ g
err-is f g h = cc

pub faulty_told : (t : Tree) (f : MsgError) → ((g : MsgError) → IsFaulty t g → IsErrOf {T = Message} (Err f) g) → (g : MsgError) → IsNoEvent t g → IsErrOf (faulty_as f) g
faulty_told t f refused g is = go f g is (err-is f g (refused g (reason-fault t g is)))
  where
    go : (f g : MsgError) → IsNoEvent t g → f ≡ g → IsErrOf (faulty_as f) g
    go (BadArgs n) NotMap is e = cc
    go (BadArgs n) NoSeq is e = cc
    go (BadArgs n) NoOp is e = cc
    go (BadArgs n) (BadArgs k) is e = absurd is
    go (BadArgs n) Mem is e = absurd is
    go f g is e = cc

pub faulty_args : (t : Tree) (f : MsgError) → ((g : MsgError) → IsFaulty t g → IsErrOf {T = Message} (Err f) g) → (n : ℕ) → IsFaulty t (BadArgs n) → faulty_as f ≡ Ok (In n body.BadArgs)
faulty_args t f refused n is = ap faulty_as (err-is f (BadArgs n) (refused (BadArgs n) is))

pub no_bad_args : (t : Tree) (m : Meaning) (n : ℕ) → IsMessage t m → IsFaulty t (BadArgs n) → ⊥
no_bad_args t m n is bad = no-fault t m (BadArgs n) is bad

-- ---- numbers

numbered-message : (t : Tree) (m : Meaning) (e : Event) → IsMessage t m → e ≡ event_of m → IsNumbered e
numbered-message t (request n asked) e is eq = (n, body_of asked, eq, is.0.1)
numbered-message t (response n result exception) e is eq = (n, body.Answered exception, eq, is.0.1)

-- an event of a message has a number below 2^63
pub numbered : (t : Tree) (e : Event) → IsEvent t e → IsNumbered e
numbered t e (inl h) = numbered-message t h.0 e h.1 h.2
numbered t e (inr h) = (h.0, body.BadArgs, h.2, h.1.0.1)

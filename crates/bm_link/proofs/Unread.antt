-- What a tree isn't that isn't read.
use Rattle.std.proofs.Common.{◌≡◌, ◌⊎◌, refl, ap, inl, inr, Ok, Err}
use Rattle.bm_value.specs.Tree.{Tree}
use Rattle.bm_msg.specs.Answers.{Reads}
use Rattle.bm_msg.specs.Meaning.{Meaning}
use Rattle.bm_msg.specs.Messages.{IsMessage}
use Rattle.bm_msg.specs.Incoming.{Said, message, bad_args, said, Says, Hears}
use Rattle.bm_msg.specs.declared.fault.MsgError.{MsgError}
use Rattle.bm_msg.specs.declared.fault.MsgError.TheVariants as msg
use Rattle.bm_link.specs.declared.fault.LinkFault.TheVariants.{BadMessage, Mem}
use Rattle.bm_msg.specs.declared.incoming.Incoming.{Incoming}
use Rattle.bm_session.specs.Heard.{IsEvent}
use Rattle.bm_session.specs.declared.event.Event.{Event}
use Rattle.bm_link.specs.Received.{IsSaid}
use Rattle.bm_link.specs.Faults.{unread_fault}

-- an answer that is no message
clash : (e : MsgError) (m : Meaning) → unread_fault e ≡ BadMessage → ¬ Reads (Err e) (Ok m)
clash msg.Mem m bad h = cc
clash msg.NotMap m bad h = cc
clash msg.NoSeq m bad h = cc
clash msg.NoOp m bad h = cc
clash (msg.BadArgs n) m bad h = cc

pub unread : (t : Tree) (e : MsgError) → ((m : Meaning) → IsMessage t m → Reads (Err e) (Ok m)) → unread_fault e ≡ BadMessage → (m : Meaning) → ¬ IsMessage t m
unread t e only bad m is = clash e m bad (only m is)

pub unread_kinds : (e : MsgError) → (unread_fault e ≡ BadMessage) ⊎ (unread_fault e ≡ Mem)
unread_kinds msg.Mem = inr refl
unread_kinds msg.NotMap = inl refl
unread_kinds msg.NoSeq = inl refl
unread_kinds msg.NoOp = inl refl
unread_kinds (msg.BadArgs n) = inl refl

-- nor does it say anything
clash-said : (e : MsgError) (s : Said) → unread_fault e ≡ BadMessage → ¬ Hears (Err e) s
clash-said msg.Mem s bad h = cc
clash-said msg.NotMap (message m) bad h = h
clash-said msg.NotMap (bad_args n) bad h = h
clash-said msg.NoSeq (message m) bad h = h
clash-said msg.NoSeq (bad_args n) bad h = h
clash-said msg.NoOp (message m) bad h = h
clash-said msg.NoOp (bad_args n) bad h = h
clash-said (msg.BadArgs k) (message m) bad h = h
clash-said (msg.BadArgs k) (bad_args n) bad h = h

pub unsaid : (t : Tree) (e : MsgError) → ((s : Said) → Says t s → Hears (Err e) s) → unread_fault e ≡ BadMessage → (i : Incoming) → ¬ IsSaid t i
unsaid t e only bad i is = clash-said e (said i) bad (only (said i) is)

-- nor is it an event
pub no_event : (t : Tree) (e : MsgError) → ((x : Event) → IsEvent t x → e ≡ msg.Mem) → unread_fault e ≡ BadMessage → (x : Event) → ¬ IsEvent t x
no_event t e wants bad x is = let mem : unread_fault e ≡ Mem = ap unread_fault (wants x is) in cc

-- The bytes of a request, decoded and read, are the event that a schedule delivers.
use Rattle.std.specs.Prelude.{◌≡◌, ℕ, ◌<◌, ◌≤◌, ◌^◌, length, List, Some, None, Result, Ok, Err}
use Rattle.std.specs.Str.{IsUtf8}
use Rattle.bm_value.specs.Num.{IsNum}
use Rattle.bm_value.specs.Spelling.{Spells}
use Rattle.bm_value.specs.Tree.{Tree, depth}
use Rattle.bm_msg.specs.Meaning.{Meaning, request}
use Rattle.bm_msg.specs.Messages.{IsMessage}
use Rattle.bm_session.specs.declared.event.Event.{Event}
use Rattle.bm_session.specs.Heard.{event_of}
use Rattle.bm_work.specs.Stream.{Report, text, code, over, asked_by, sent}
use Rattle.bm_replay.specs.declared.incoming.Unread.{Unread}
use Rattle.bm_replay.specs.declared.incoming.Unread.TheVariants.{Spelling, Meaning as Telling, OutOfMemory}
use Rattle.bm_value.specs.declared.fault.DecodeError.TheVariants.{Mem as NoMemory}
use Rattle.bm_msg.specs.declared.fault.MsgError.TheVariants.{Mem}
use Rattle.bm_replay.specs.Schedule.{as_heard}

-- What a worker can say: a text or a fault in UTF-8 of at most 65,536 bytes, or an exit code that
-- MessagePack has. The command's number is below 2^63, as that of every start that is read.
abbrev pub CanBeSaid : Report → Type 0
CanBeSaid (text k letter t) = (k < 2 ^ 63) × IsUtf8 t × (length t ≤ 65536)
CanBeSaid (code k z) = (k < 2 ^ 63) × IsNum z
CanBeSaid (over k None) = k < 2 ^ 63
CanBeSaid (over k (Some fault)) = (k < 2 ^ 63) × IsUtf8 fault × (length fault ≤ 65536)

-- the bytes spell a tree that can be decoded, and the tree is this message
pub record AreRead (bytes : List ℕ) (m : Meaning) : Type 0 where
  pub tree : Tree
  pub spelled : Spells bytes tree
  pub nests : depth tree ≤ 32
  pub told : IsMessage tree m

-- the bytes of request n can be decoded and read, as that request
abbrev pub BytesAreRead : Type 0
BytesAreRead =
    (n : ℕ) (r : Report) → n < 2 ^ 63 → CanBeSaid r
    → AreRead (sent n r).bytes (request n (asked_by r))

-- whatever tree they spell, and whatever message it is, its event is the one that a schedule
-- delivers as request n
abbrev pub BytesAreTheEvent : Type 0
BytesAreTheEvent =
    (n : ℕ) (r : Report) (t : Tree) (m : Meaning)
    → n < 2 ^ 63
    → CanBeSaid r
    → Spells (sent n r).bytes t
    → IsMessage t m
    → event_of m ≡ as_heard n r

-- the call answers this event, unless memory ran out
abbrev pub IsHeard : Result Event Unread → Event → Type 0
IsHeard (Ok answered) event = answered ≡ event
IsHeard (Err OutOfMemory) event = Unit {0}
IsHeard (Err (Spelling NoMemory)) event = Unit {0}
IsHeard (Err (Telling Mem)) event = Unit {0}
IsHeard (Err other) event = ⊥

-- where the bytes are those of a request that a worker can say, the call answers the event that a
-- schedule delivers
unfoldable pub HearsRequests : List ℕ → Result Event Unread → Type 0
HearsRequests bytes answered =
    (n : ℕ) (r : Report) → n < 2 ^ 63 → CanBeSaid r → bytes ≡ (sent n r).bytes
    → IsHeard answered (as_heard n r)

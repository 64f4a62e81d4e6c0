-- What the program answers to the bytes of a request.
use Rattle.std.proofs.Common.{◌≡◌, refl, inl, sym, subst, ℕ, ◌<◌, ◌≤◌, ◌^◌, List}
use Rattle.std.specs.Prelude.{Ok, Err}
use Rattle.bm_value.specs.declared.fault.DecodeError.{DecodeError}
use Rattle.bm_value.specs.declared.fault.DecodeError.TheVariants.{Truncated, Reserved, BadUtf8, TooDeep, Trailing, Mem as NoMemory}
use Rattle.bm_value.specs.Reading.{Refuses}
use Rattle.bm_value.specs.Spelling.{Spells}
use Rattle.bm_value.specs.Tree.{Tree, depth}
use Rattle.bm_value.proofs.Unique.{spelled_once}
use Rattle.bm_msg.specs.declared.fault.MsgError.{MsgError}
use Rattle.bm_msg.specs.declared.fault.MsgError.TheVariants.{Mem}
use Rattle.bm_msg.specs.Meaning.{request}
use Rattle.bm_msg.specs.Messages.{IsMessage}
use Rattle.bm_session.specs.declared.event.Event.{Event}
use Rattle.bm_session.specs.Heard.{IsEvent}
use Rattle.bm_work.specs.Stream.{Report, asked_by, sent}
use Rattle.bm_replay.specs.declared.incoming.Unread.TheVariants.{Spelling, Meaning as Telling, OutOfMemory}
use Rattle.bm_replay.specs.Schedule.{as_heard}
use Rattle.bm_replay.specs.Wire.{CanBeSaid, AreRead, IsHeard, HearsRequests}
use Rattle.bm_replay.proofs.Bytes.{bytes_are_read}

pub hears-nothing : (bytes : List ℕ) → HearsRequests bytes (Err OutOfMemory)
unfolding HearsRequests
hears-nothing bytes = λ n r low can same. tt

-- of bytes that spell such a tree no fault is told but want of memory
unspelled : (fault : DecodeError) (t : Tree) (e : Event) → Refuses fault (Ok t) → IsHeard (Err (Spelling fault)) e
unspelled Truncated t e h = absurd cc
unspelled Reserved t e h = absurd cc
unspelled BadUtf8 t e h = absurd cc
unspelled TooDeep t e h = absurd cc
unspelled Trailing t e h = absurd cc
unspelled NoMemory t e h = tt

pub hears-spelled : (bytes : List ℕ) (fault : DecodeError) → ((t : Tree) → Spells bytes t → depth t ≤ 32 → Refuses fault (Ok t)) → HearsRequests bytes (Err (Spelling fault))
unfolding HearsRequests
hears-spelled bytes fault only = λ n r low can same.
    let read : AreRead (sent n r).bytes (request n (asked_by r)) = bytes_are_read n r low can in
    unspelled fault read.tree (as_heard n r) (only read.tree (subst (λ b. Spells b read.tree) (sym same) read.spelled) read.nests)

-- the tree that they spell is a message
pub told-by : (bytes : List ℕ) (n : ℕ) (r : Report) (t : Tree) → n < 2 ^ 63 → CanBeSaid r → bytes ≡ (sent n r).bytes → Spells bytes t → IsMessage t (request n (asked_by r))
told-by bytes n r t low can same spelled =
    let read : AreRead (sent n r).bytes (request n (asked_by r)) = bytes_are_read n r low can in
    let one : read.tree ≡ t = spelled_once (sent n r).bytes read.tree t read.spelled (subst (λ b. Spells b t) same spelled) in
    subst (λ u. IsMessage u (request n (asked_by r))) one read.told

-- the event of that tree is what is answered
pub hears-event : (bytes : List ℕ) (t : Tree) (answered : Event) → Spells bytes t → ((e : Event) → IsEvent t e → answered ≡ e) → HearsRequests bytes (Ok answered)
unfolding HearsRequests
hears-event bytes t answered spelled only = λ n r low can same.
    only (as_heard n r) (inl (request n (asked_by r), told-by bytes n r t low can same spelled, refl))

untold : (fault : MsgError) (e : Event) → fault ≡ Mem → IsHeard (Err (Telling fault)) e
untold fault e is = subst (λ f. IsHeard (Err (Telling f)) e) (sym is) tt

-- and no other fault of that tree is told but want of memory
pub hears-told : (bytes : List ℕ) (t : Tree) (fault : MsgError) → Spells bytes t → ((e : Event) → IsEvent t e → fault ≡ Mem) → HearsRequests bytes (Err (Telling fault))
unfolding HearsRequests
hears-told bytes t fault spelled wants = λ n r low can same.
    untold fault (as_heard n r) (wants (as_heard n r) (inl (request n (asked_by r), told-by bytes n r t low can same spelled, refl)))

-- A worker can hear what its master sends. So the laws on what it hears in such bytes speak of
-- something.
use Rattle.std.specs.Prelude.{◌<◌, ◌^◌, ℕ, List, Option}
use Rattle.std.specs.declared.alloc.Global.{Global}
use Rattle.bm_msg.specs.Trees.{answer_bytes}
use Rattle.bm_msg.specs.declared.incoming.Incoming.{Incoming}
use Rattle.bm_link.specs.Asks.{ask_bytes, texts_of}
use Rattle.bm_link.specs.Orders.{start_bytes, interrupt_bytes}
use Rattle.bm_link.specs.Received.{AreSaid}
use Rattle.bm_link.specs.declared.asks.Ask.{Ask}
use Rattle.bm_wired.specs.ReadBack.{IsTellable}
use Rattle.bm_wired.specs.Wired.{AreSendable}

-- something is heard in the bytes
abbrev pub CanBeHeard : List ℕ → Type 0
CanBeHeard bytes = (a : Incoming) × AreSaid bytes a

-- an order, whose arguments lie in some memory
abbrev pub OrdersCanBeHeard : Type 0
OrdersCanBeHeard =
    ((heap : Global) (n k : ℕ) (argv : List (List ℕ)) → n < 2 ^ 63 → k < 2 ^ 63 → AreSendable argv
    → CanBeHeard (start_bytes n k argv))
    × ((n k : ℕ) → n < 2 ^ 63 → k < 2 ^ 63 → CanBeHeard (interrupt_bytes n k))

-- another request
abbrev pub AsksCanBeHeard : Type 0
AsksCanBeHeard =
    (n : ℕ) (a : Ask) → n < 2 ^ 63 → AreSendable (texts_of a) → CanBeHeard (ask_bytes n a)

-- an answer
abbrev pub AnswersCanBeHeard : Type 0
AnswersCanBeHeard =
    (n : ℕ) (exception : Option (List ℕ)) → n < 2 ^ 63 → IsTellable exception
    → CanBeHeard (answer_bytes n exception)

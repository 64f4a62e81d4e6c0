-- What a value says to the end that hears it.
use Rattle.std.specs.Prelude.{◌≡◌, ℕ, Result, Ok, Err}
use Rattle.bm_value.specs.Tree.{Tree}
use Rattle.bm_msg.specs.declared.fault.MsgError.{MsgError}
use Rattle.bm_msg.specs.declared.fault.MsgError.TheVariants as fault
use Rattle.bm_msg.specs.declared.incoming.Incoming.{Incoming}
use Rattle.bm_msg.specs.declared.incoming.Incoming.TheVariants.{Message, BadArgs}
use Rattle.bm_msg.specs.Meaning.{Meaning, meaning}
use Rattle.bm_msg.specs.Messages.{IsMessage, IsFaulty}

-- a message, or the number of a request whose further keys are missing or of another kind
pub data Said : Type 0 where
  message : Meaning → Said
  bad_args : ℕ → Said

abbrev pub said : Incoming → Said
said (Message m) = message (meaning m)
said (BadArgs n) = bad_args n

-- the tree says this
abbrev pub Says : Tree → Said → Type 0
Says t (message m) = IsMessage t m
Says t (bad_args n) = IsFaulty t (fault.BadArgs n)

-- the tree says nothing, and this is the first reason
abbrev pub SaysNothing : Tree → MsgError → Type 0
SaysNothing t (fault.BadArgs n) = ⊥
SaysNothing t other = IsFaulty t other

-- the call answers this, where a message may want memory
abbrev pub Hears : Result Incoming MsgError → Said → Type 0
Hears (Ok answered) s = said answered ≡ s
Hears (Err fault.Mem) (message m) = Unit {0}
Hears (Err other) s = ⊥

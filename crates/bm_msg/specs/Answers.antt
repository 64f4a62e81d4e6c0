-- What a reader of messages answers.
use Rattle.std.specs.Prelude.{◌≡◌, Result, Ok, Err, IsOk}
use Rattle.bm_msg.specs.declared.fault.MsgError.{MsgError}
use Rattle.bm_msg.specs.declared.fault.MsgError.TheVariants.{NotMap, NoSeq, NoOp, BadArgs, Mem}
use Rattle.bm_msg.specs.declared.message.Message.{Message}
use Rattle.bm_msg.specs.Meaning.{Meaning, meaning}

-- The call answers this fault, or this message, for which it may want memory.
abbrev pub Reads : Result Message MsgError → Result Meaning MsgError → Type 0
Reads (Ok m) answer = answer ≡ Ok (meaning m)
Reads (Err Mem) answer = IsOk answer
Reads (Err NotMap) answer = answer ≡ Err NotMap
Reads (Err NoSeq) answer = answer ≡ Err NoSeq
Reads (Err NoOp) answer = answer ≡ Err NoOp
Reads (Err (BadArgs n)) answer = answer ≡ Err (BadArgs n)

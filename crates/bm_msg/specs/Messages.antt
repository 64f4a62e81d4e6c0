-- Which message a tree is, and what is wrong with a tree that is none.
-- (Buildbot manual, master-worker protocol of MessagePack over WebSocket.)
use Rattle.std.specs.Prelude.{◌≡◌, ℕ, ◌<◌, ◌^◌, pos, Bool, true, false, ◌&&◌, List, [], ◌∷◌, length, codes, Option, Some, None, bytes_eq, nat_le, if◌then◌else◌}
use Rattle.std.specs.List.{list_any}
use Rattle.std.specs.Fmt.{decimal}
use Rattle.bm_value.specs.Tree.{Tree, nil, bool, int, str, array, dict, Trees, Pairs}
use Rattle.bm_value.specs.Field.{field}
use Rattle.bm_msg.specs.declared.field.Field.{Field}
use Rattle.bm_msg.specs.declared.fault.MsgError.{MsgError}
use Rattle.bm_msg.specs.declared.fault.MsgError.TheVariants.{NotMap, NoSeq, NoOp, BadArgs, Mem}
use Rattle.bm_msg.specs.Items.{fields_of}
use Rattle.bm_msg.specs.Meaning.{Asked, auth, print, keepalive, get_worker_info, start_command, interrupt_command, shutdown, update, complete, unknown, Meaning, request, response}

-- the last pair with this key has this str
abbrev pub HasText : Tree → List ℕ → List ℕ → Type 0
HasText t key s = field t key ≡ Some (str s)

-- the number of a message is 0 to 2^63 - 1
abbrev pub HasNumber : Tree → ℕ → Type 0
HasNumber t n = (field t (codes "seq_number") ≡ Some (int (pos n))) × (n < 2 ^ 63)

abbrev pub HasOp : Tree → List ℕ → Type 0
HasOp t op = HasText t (codes "op") op

-- a command's number stands as a decimal numeral
abbrev pub HasCommand : Tree → ℕ → Type 0
HasCommand t k = HasText t (codes "command_id") (decimal k) × (k < 2 ^ 63)

-- the args of an update are its items
abbrev pub HasItems : Tree → List Field → Type 0
HasItems t fields =
    (items : Trees) × (field t (codes "args") ≡ Some (array items))
    × (fields_of items ≡ Some fields)

-- the args of a complete are nil, or the text that names a fault
abbrev pub HasFault : Tree → Option (List ℕ) → Type 0
HasFault t None = field t (codes "args") ≡ Some nil
HasFault t (Some s) = HasText t (codes "args") s

abbrev pub is_session : List ℕ → Bool
is_session s = nat_le 1 (length s) && nat_le (length s) 64

-- a session is a str of 1 to 64 bytes; any other value, or none, names no session
abbrev pub session_of : Option Tree → Option (List ℕ)
session_of (Some (str s)) = if is_session s then Some s else None
session_of _ = None

-- the text that a session is to have which begins by this login, read alike
abbrev pub next_session_of : Tree → Option (List ℕ)
next_session_of t = session_of (field t (codes "next_session"))

-- the operations of the protocol
abbrev pub ops : List (List ℕ)
ops =
    codes "auth" ∷ codes "update" ∷ codes "complete" ∷ codes "print" ∷ codes "keepalive"
    ∷ codes "get_worker_info" ∷ codes "shutdown" ∷ codes "start_command"
    ∷ codes "interrupt_command" ∷ codes "response" ∷ []

abbrev pub is_op : List ℕ → Bool
is_op op = list_any (λ known. bytes_eq op known) ops

-- the tree asks this
abbrev pub IsRequest : Tree → Asked → Type 0
IsRequest t (auth username password session) =
    HasOp t (codes "auth")
    × HasText t (codes "username") username × HasText t (codes "password") password
    × (session_of (field t (codes "session")) ≡ session)
IsRequest t (update command fields) =
    HasOp t (codes "update") × HasCommand t command × HasItems t fields
IsRequest t (complete command fault) =
    HasOp t (codes "complete") × HasCommand t command × HasFault t fault
IsRequest t (print message) = HasOp t (codes "print") × HasText t (codes "message") message
IsRequest t keepalive = HasOp t (codes "keepalive")
IsRequest t get_worker_info = HasOp t (codes "get_worker_info")
IsRequest t shutdown = HasOp t (codes "shutdown")
IsRequest t (start_command command name args) =
    HasOp t (codes "start_command") × HasCommand t command × HasText t (codes "command_name") name
    × (field t (codes "args") ≡ Some args)
IsRequest t (interrupt_command command why) =
    HasOp t (codes "interrupt_command") × HasCommand t command × HasText t (codes "why") why
IsRequest t (unknown op) = HasOp t op × (is_op op ≡ false)

-- is_exception counts only where it is true
abbrev pub is_exception : Option Tree → Bool
is_exception (Some (bool b)) = b
is_exception _ = false

-- a result that is missing is nil, and an exception's that is no str is the text unknown
abbrev pub result_of : Bool → Option Tree → Tree
result_of false (Some t) = t
result_of false None = nil
result_of true (Some (str s)) = str s
result_of true _ = str (codes "unknown")

-- The tree is this message.
abbrev pub IsMessage : Tree → Meaning → Type 0
IsMessage t (request n asked) = HasNumber t n × IsRequest t asked
IsMessage t (response n result exception) =
    HasNumber t n × HasOp t (codes "response")
    × (is_exception (field t (codes "is_exception")) ≡ exception)
    × (result_of exception (field t (codes "result")) ≡ result)

-- The tree is no message, and this is the first reason.
abbrev pub IsFaulty : Tree → MsgError → Type 0
IsFaulty t NotMap = ¬ ((pairs : Pairs) × (t ≡ dict pairs))
IsFaulty t NoSeq = ((pairs : Pairs) × (t ≡ dict pairs)) × ((n : ℕ) → ¬ HasNumber t n)
IsFaulty t NoOp = ((n : ℕ) × HasNumber t n) × ((op : List ℕ) → ¬ HasOp t op)
IsFaulty t (BadArgs n) =
    HasNumber t n × ((op : List ℕ) × HasOp t op) × ((m : Meaning) → ¬ IsMessage t m)
IsFaulty t Mem = ⊥

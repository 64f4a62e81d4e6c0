-- The trees that messages are written as: the number and the operation first, then the keys of
-- the operation.
use Rattle.std.specs.Prelude.{ℕ, pos, Bool, true, false, List, [], ◌∷◌, ◌++◌, map, codes, Option, Some, None}
use Rattle.std.specs.Fmt.{decimal}
use Rattle.bm_value.specs.Tree.{Tree, nil, bool, int, str, array, dict, none, item, TreePair}
use Rattle.bm_value.specs.View.{trees_of, pairs_of}
use Rattle.bm_value.specs.Writing.{written}
use Rattle.bm_lines.specs.declared.letter.Letter.{Letter}
use Rattle.bm_lines.specs.declared.letter.Letter.TheVariants.{O, E, H}
use Rattle.bm_msg.specs.declared.field.Field.{Field}
use Rattle.bm_msg.specs.declared.field.Field.TheVariants.{Text, Named, Rc}
use Rattle.bm_msg.specs.Meaning.{Asked, auth, print, keepalive, get_worker_info, start_command, interrupt_command, shutdown, update, complete, unknown, Meaning, request, response}

-- a key and its value
abbrev pub at : List ℕ → Tree → TreePair
at key value = record { key = str key; value = value }

abbrev pub two : Tree → Tree → Tree
two a b = array (item a (item b none))

-- the name of the item that carries a letter's texts
abbrev pub stream_of : Letter → List ℕ
stream_of O = codes "stdout"
stream_of E = codes "stderr"
stream_of H = codes "header"

-- an item of an update
abbrev pub item_of : Field → Tree
item_of (Text letter text) = two (str (stream_of letter)) (str text)
item_of (Named name text) = two (str (codes "log")) (two (str name) (str text))
item_of (Rc z) = two (str (codes "rc")) (int z)

abbrev pub op_of : Asked → List ℕ
op_of (auth username password session) = codes "auth"
op_of (update command fields) = codes "update"
op_of (complete command fault) = codes "complete"
op_of (print message) = codes "print"
op_of keepalive = codes "keepalive"
op_of get_worker_info = codes "get_worker_info"
op_of shutdown = codes "shutdown"
op_of (start_command command name args) = codes "start_command"
op_of (interrupt_command command why) = codes "interrupt_command"
op_of (unknown op) = op

abbrev pub session_key : Option (List ℕ) → List TreePair
session_key None = []
session_key (Some s) = at (codes "session") (str s) ∷ []

abbrev pub fault_tree : Option (List ℕ) → Tree
fault_tree None = nil
fault_tree (Some s) = str s

abbrev pub command_key : ℕ → TreePair
command_key command = at (codes "command_id") (str (decimal command))

-- the further keys of a request
abbrev pub keys_of : Asked → List TreePair
keys_of (auth username password session) =
    at (codes "username") (str username) ∷ at (codes "password") (str password)
    ∷ session_key session
keys_of (update command fields) =
    command_key command ∷ at (codes "args") (array (trees_of (map item_of fields))) ∷ []
keys_of (complete command fault) = command_key command ∷ at (codes "args") (fault_tree fault) ∷ []
keys_of (print message) = at (codes "message") (str message) ∷ []
keys_of keepalive = []
keys_of get_worker_info = []
keys_of shutdown = []
keys_of (start_command command name args) =
    command_key command ∷ at (codes "command_name") (str name) ∷ at (codes "args") args ∷ []
keys_of (interrupt_command command why) = command_key command ∷ at (codes "why") (str why) ∷ []
keys_of (unknown op) = []

-- is_exception stands only in an exception
abbrev pub exception_key : Bool → List TreePair
exception_key true = at (codes "is_exception") (bool true) ∷ []
exception_key false = []

abbrev pub message_tree : ℕ → List ℕ → List TreePair → Tree
message_tree n op keys =
    dict (pairs_of (at (codes "seq_number") (int (pos n)) ∷ at (codes "op") (str op) ∷ keys))

-- the tree of a message
abbrev pub tree_of : Meaning → Tree
tree_of (request n asked) = message_tree n (op_of asked) (keys_of asked)
tree_of (response n result exception) =
    message_tree n (codes "response") (at (codes "result") result ∷ exception_key exception)

abbrev pub next_session_key : Option (List ℕ) → List TreePair
next_session_key None = []
next_session_key (Some s) = at (codes "next_session") (str s) ∷ []

-- The tree of a login, which is request 0: that of the `auth`. Behind its keys stands the text that
-- a session is to have which begins by it.
abbrev pub login_tree : List ℕ → List ℕ → Option (List ℕ) → Option (List ℕ) → Tree
login_tree username password session next =
    message_tree 0 (codes "auth")
    (keys_of (auth username password session) ++ next_session_key next)

-- the response that is nil, or the exception with this text
abbrev pub answer : ℕ → Option (List ℕ) → Meaning
answer n None = response n nil false
answer n (Some text) = response n (str text) true

-- the bytes of that response
unfoldable pub answer_bytes : ℕ → Option (List ℕ) → List ℕ
answer_bytes n exception = written (tree_of (answer n exception))

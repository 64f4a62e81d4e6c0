-- No tree is two messages, and what is written reads back as the same message.
use Rattle.std.specs.Prelude.{◌≡◌, ℕ, ◌<◌, ◌≤◌, ◌^◌, Bool, true, false, List, [], ◌∷◌, length, Option, Some, None}
use Rattle.bm_value.specs.Tree.{Tree, str}
use Rattle.bm_value.specs.Spelling.{Spells}
use Rattle.bm_value.specs.Writing.{written}
use Rattle.bm_value.specs.Decoding.{IsReadBack}
use Rattle.bm_lines.specs.Names.{IsLogName}
use Rattle.bm_msg.specs.declared.field.Field.{Field}
use Rattle.bm_msg.specs.declared.field.Field.TheVariants.{Text, Named, Rc}
use Rattle.bm_msg.specs.Meaning.{Asked, auth, start_command, interrupt_command, update, complete, unknown, Meaning, request, response}
use Rattle.bm_msg.specs.Messages.{IsMessage, is_op, next_session_of}
use Rattle.bm_msg.specs.Trees.{login_tree, tree_of}

-- the names of named texts are names of logs, as in every field
abbrev pub AreNamed : List Field → Type 0
AreNamed [] = Unit {0}
AreNamed (Text letter text ∷ fields) = AreNamed fields
AreNamed (Named name text ∷ fields) = IsLogName name × AreNamed fields
AreNamed (Rc z ∷ fields) = AreNamed fields

-- a session has 1 to 64 bytes
abbrev pub IsSession : Option (List ℕ) → Type 0
IsSession None = Unit {0}
IsSession (Some s) = (1 ≤ length s) × (length s ≤ 64)

-- a command's number is below 2^63, and an unknown operation is none of the protocol
abbrev pub IsPlain : Asked → Type 0
IsPlain (auth username password session) = IsSession session
IsPlain (update command fields) = (command < 2 ^ 63) × AreNamed fields
IsPlain (complete command fault) = command < 2 ^ 63
IsPlain (start_command command name args) = command < 2 ^ 63
IsPlain (interrupt_command command why) = command < 2 ^ 63
IsPlain (unknown op) = is_op op ≡ false
IsPlain _ = Unit {0}

-- an exception's result is a str
abbrev pub IsPlainResult : Bool → Tree → Type 0
IsPlainResult true t = (s : List ℕ) × (t ≡ str s)
IsPlainResult false t = Unit {0}

abbrev pub IsPlainMessage : Meaning → Type 0
IsPlainMessage (request n asked) = (n < 2 ^ 63) × IsPlain asked
IsPlainMessage (response n result exception) = (n < 2 ^ 63) × IsPlainResult exception result

-- The tree that a message is written as is that message.
abbrev pub WrittenIsMessage : Type 0
WrittenIsMessage = (m : Meaning) → IsPlainMessage m → IsMessage (tree_of m) m

-- No tree is two messages.
abbrev pub ToldOnce : Type 0
ToldOnce = (t : Tree) (m n : Meaning) → IsMessage t m → IsMessage t n → m ≡ n

-- Whatever tree the bytes of a message spell is that message.
abbrev pub WrittenIsRead : Type 0
WrittenIsRead =
    (m : Meaning) → IsPlainMessage m → IsReadBack (tree_of m)
    → (t : Tree) → Spells (written (tree_of m)) t → IsMessage t m

-- A login that names no next session has the tree of its `auth`, and so the same bytes.
abbrev pub FirstLoginsStay : Type 0
FirstLoginsStay =
    (username password : List ℕ) (session : Option (List ℕ))
    → login_tree username password session None
    ≡ tree_of (request 0 (auth username password session))

-- Whatever tree the bytes of a login spell is that `auth`, and names that next session.
abbrev pub LoginsAreRead : Type 0
LoginsAreRead =
    (username password : List ℕ) (session next : Option (List ℕ))
    → IsSession session → IsSession next → IsReadBack (login_tree username password session next)
    → (t : Tree) → Spells (written (login_tree username password session next)) t
    → IsMessage t (request 0 (auth username password session)) × (next_session_of t ≡ next)
